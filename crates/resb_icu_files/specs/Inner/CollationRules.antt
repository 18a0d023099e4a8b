-- What the functions that strip collation rules answer.
use Rattle.std.specs.Prelude.{◌≡◌, ℕ, true, false, List, Option, option_map, slice_index}
use Rattle.resb_grammar.specs.Lexical.{digits_value}
use Rattle.resb_icu_grammar.specs.Escapes.{are_hex}
use Rattle.resb_icu_files.specs.CollationRules.{Step, is_not_said}
use Rattle.resb_icu_files.specs.declared.collation.Part.{Part}

-- this is the answer for a step, with what is left then
abbrev pub IsAnswer : Option Part → List ℕ → Step → Type 0
IsAnswer o new s = s ≡ option_map (λ part. (part, new)) o

-- so many hex digits behind the first character say this one
pub record IsSaid (rest : List ℕ) (count c : ℕ) : Type 0 where
  pub hex : are_hex rest 1 count ≡ true
  pub says : c ≡ digits_value 16 rest 1 count
  pub meant : is_not_said (slice_index rest 0) (digits_value 16 rest 1 count) ≡ false

-- What the functions that strip rules answer.
use Rattle.std.specs.Prelude.{◌≡◌, ◌-◌, ◌==◌, ℕ, Bool, true, false, List, Option}
use Rattle.std.specs.Prelude.{length, slice_index, option_map}
use Rattle.resb_grammar.specs.Lexical.{digits_value}
use Rattle.resb_grammar.specs.Ascii as ascii
use Rattle.resb_icu_grammar.specs.Escapes.{are_hex}
use Rattle.resb_icu_files.specs.Rules.{Step, is_surrogate}
use Rattle.resb_icu_files.specs.declared.rules.Standing.{Standing}

-- a space stands last
abbrev pub ends_in_space : List ℕ → Bool
ends_in_space cs = slice_index cs (length cs - 1) == ascii.space

-- this is the answer for a step, with what is left then
abbrev pub IsAnswer : Option Standing → List ℕ → Step → Type 0
IsAnswer o new s = s ≡ option_map (λ standing. (standing, new)) o

-- four hex digits behind the first character say this one
pub record IsEscaped (rest : List ℕ) (c : ℕ) : Type 0 where
  pub hex : are_hex rest 1 4 ≡ true
  pub says : c ≡ digits_value 16 rest 1 4
  pub whole : is_surrogate (digits_value 16 rest 1 4) ≡ false

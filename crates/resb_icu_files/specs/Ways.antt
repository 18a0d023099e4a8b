-- Groups of ICU's text form that take another file in, and files that stand beside a text.
use Rattle.std.specs.Prelude.{◌≡◌, ◌+◌, ◌==◌, ◌||◌, ℕ, Bool, true, false, Option, Some, None}
use Rattle.std.specs.Prelude.{List, [], ◌∷◌, length, drop, slice_index, codes, nat_eq}
use Rattle.std.specs.Prelude.{if◌then◌else◌}
use Rattle.std.specs.List.{starts_with}
use Rattle.std.specs.Cmp.Lexicographic.{pointwise}
use Rattle.std.specs.String.{string_bytes}
use Rattle.resb_grammar.specs.Ascii as ascii
use Rattle.resb_grammar.specs.ByteRuns.{is_white}
use Rattle.resb_icu_grammar.specs.Blanks.{Skip}
use Rattle.resb_icu_grammar.specs.Words.{Text}
use Rattle.resb_icu_files.specs.declared.file.TextFile.{TextFile}
use Rattle.resb_icu_files.specs.declared.way.Way.{Way}
use Rattle.resb_icu_files.specs.declared.way.Way.TheVariants as way

-- the bytes of the first file of this name, if one has it
abbrev pub bytes_named : List TextFile → List ℕ → Option (List ℕ)
bytes_named [] name = None
bytes_named (file ∷ files) name =
    if pointwise nat_eq (string_bytes file.name) name then Some file.bytes.items
    else bytes_named files name

-- the type of a group that takes a file in, as a text spells it behind a `:`
abbrev pub spelling : Way → List ℕ
spelling way.Dependency = codes "process(dependency)"
spelling way.Include = codes "include"
spelling way.Import = codes "import"
spelling way.Rules = codes "process(transliterator)"
spelling way.CollationRules = codes "process(uca_rules)"

-- a group of this type takes a file in: all but a dependency's, which take its name alone
abbrev pub takes_file : Way → Bool
takes_file way.Dependency = false
takes_file _ = true

-- a group of this type takes a file's text in
abbrev pub takes_text : Way → Bool
takes_text way.Import = false
takes_text kind = takes_file kind

-- these bytes stand there
unfoldable pub stands_at : List ℕ → ℕ → List ℕ → Bool
stands_at text at bytes = starts_with nat_eq (drop at text) bytes

-- the type that is spelt there, if one is
abbrev pub way_at : List ℕ → ℕ → Option Way
way_at text at =
    if stands_at text at (spelling way.Dependency) then Some way.Dependency
    else if stands_at text at (spelling way.Include) then Some way.Include
    else if stands_at text at (spelling way.Import) then Some way.Import
    else if stands_at text at (spelling way.Rules) then Some way.Rules
    else if stands_at text at (spelling way.CollationRules) then Some way.CollationRules else None

-- a byte right behind which such a type may stand: a `:`, a white character, and the `/` of a comment
abbrev pub may_precede : ℕ → Bool
may_precede b = b == ascii.colon || (is_white b || b == ascii.slash)

-- a group that takes a file in: a `:`, its type, `{`, the file's name as a string, and `}`, with
-- nothing but blanks between them; `brace` and `last` are the places of the two braces
pub record FileGroup (text : List ℕ) (at : ℕ) (kind : Way) (brace last : ℕ)
    (name : List ℕ) : Type 0 where
  pub place : ℕ
  pub from : ℕ
  pub to : ℕ
  pub colon : slice_index text at ≡ ascii.colon
  pub behind : Skip text (at + 1) place
  pub spelt : way_at text place ≡ Some kind
  pub between : Skip text (place + length (spelling kind)) brace
  pub opens : slice_index text brace ≡ ascii.left_brace
  pub before : Skip text (brace + 1) from
  pub names : Text text from to name
  pub after : Skip text to last
  pub closes : slice_index text last ≡ ascii.right_brace

-- no group that takes a file in begins there
abbrev pub NoFileGroup : List ℕ → ℕ → Type 0
NoFileGroup text at =
    (kind : Way) (brace last : ℕ) (name : List ℕ) → FileGroup text at kind brace last name → ⊥

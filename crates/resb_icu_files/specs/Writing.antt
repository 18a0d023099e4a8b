-- What a text becomes, and what is written for a group that takes a file in.
use Rattle.std.specs.Prelude.{◌≡◌, ◌+◌, ℕ, true, Option, Some, None, List, [], ◌∷◌, ◌++◌, length}
use Rattle.std.specs.Prelude.{slice_range}
use Rattle.std.specs.Prelude.{drop, codes, nat_eq, if◌then◌else◌}
use Rattle.std.specs.List.{starts_with}
use Rattle.std.specs.Str.{IsUtf8}
use Rattle.hex.specs.Hex.{encode_lower}
use Rattle.resb_grammar.specs.Ascii as ascii
use Rattle.resb_icu_print.specs.Printed.{piece_on}
use Rattle.resb_print.specs.Printed.{quoted_on}
use Rattle.resb_icu_files.specs.Rules.{rules_in}
use Rattle.resb_icu_files.specs.CollationRules.{collation_rules_in}
use Rattle.resb_icu_files.specs.Ways.{bytes_named, takes_file, takes_text}
use Rattle.resb_icu_files.specs.declared.file.TextFile.{TextFile}
use Rattle.resb_icu_files.specs.declared.taken.Change.{Change}
use Rattle.resb_icu_files.specs.declared.way.Way.{Way}
use Rattle.resb_icu_files.specs.declared.way.Way.TheVariants as way

-- a file that a group names: the place of the group, and the name
pub record Named : Type 0 where
  pub place : ℕ
  pub name : List ℕ

-- what a text has become up to a place: the new text, what will stand in the array of dependencies,
-- those dependencies, and what was changed, each in order of place
pub record Output : Type 0 where
  pub said : List ℕ
  pub listed : List ℕ
  pub dependencies : List Named
  pub changes : List Change

-- nothing is written yet
abbrev pub no_output : Output
no_output = record { said = []; listed = []; dependencies = []; changes = [] }

-- the text between two places is copied
abbrev pub copied : List ℕ → ℕ → ℕ → Output → Output
copied text from to output = record output { said = output.said ++ slice_range text from to }

-- what stands between two places is written anew, as these bytes
abbrev pub rewritten : ℕ → ℕ → List ℕ → Output → Output
rewritten from to bytes output = record output {
  said = output.said ++ bytes;
  changes = output.changes ++ record {
    from = from;
    to = to;
    new_from = length output.said;
    new_to = length output.said + length bytes;
  } ∷ [];
}

-- a dependency is listed, by what stands between its braces
abbrev pub with_dependency : List ℕ → ℕ → List ℕ → Output → Output
with_dependency inside place name output = record output {
  listed = output.listed ++ (inside ++ ascii.comma ∷ []);
  dependencies = output.dependencies ++ record { place = place; name = name } ∷ [];
}

-- what a group adds beside what is written for it: a dependency is listed
abbrev pub with_listed : Way → List ℕ → ℕ → List ℕ → Output → Output
with_listed way.Dependency inside place name output = with_dependency inside place name output
with_listed _ inside place name output = output

-- the entry of the dependencies: an array of their names, as the text spells them
abbrev pub entry_of : List ℕ → List ℕ
entry_of listed = codes " %%DEPENDENCY:array{" ++ (listed ++ codes "}")

-- the byte order mark
abbrev pub mark : List ℕ
mark = 0xef ∷ 0xbb ∷ 0xbf ∷ []

-- bytes without the mark before them, if it stands there
abbrev pub behind_mark : List ℕ → List ℕ
behind_mark bytes = if starts_with nat_eq bytes mark then drop 3 bytes else bytes

-- what a group of this type takes of a file's text: the text itself, or what is left of its rules
abbrev pub said_of : Way → List ℕ → Option (List ℕ)
said_of way.Rules text = rules_in text
said_of way.CollationRules text = collation_rules_in text
said_of _ text = Some text

-- what is written for a group, given what stands between its braces: for a dependency a string of
-- that; for bytes the file's bytes in hex digits; else a string, in quotes, of what the group takes
-- of the file's text
pub data Written (files : List TextFile) (inside name : List ℕ) : Way → List ℕ → Type 0 where
  a_dependency : Written files inside name way.Dependency
      (codes ":string{" ++ (inside ++ codes "}"))
  some_bytes : (bytes : List ℕ) → bytes_named files name ≡ Some bytes
      → Written files inside name way.Import
      (codes ":bin{" ++ quoted_on (encode_lower bytes) (codes "}"))
  a_text : (kind : Way) (bytes said : List ℕ) → takes_text kind ≡ true
      → bytes_named files name ≡ Some bytes → IsUtf8 (behind_mark bytes)
      → said_of kind (behind_mark bytes) ≡ Some said
      → Written files inside name kind (codes ":string{" ++ piece_on said (codes "}"))

-- what keeps a group from being written
pub data Fault : Type 0 where
  no_file : Fault
  no_text : Fault
  no_rules : Fault
  no_collation_rules : Fault

-- what is wrong where nothing is left of the rules that a group of this type takes
abbrev pub fault_of : Way → Fault
fault_of way.CollationRules = no_collation_rules
fault_of _ = no_rules

-- a group can't be written: no file has its name, which is no dependency's; or the file whose text
-- it takes is no UTF-8; or it is, and nothing is left of the rules in it, since an escape says no
-- character or, in collation rules, something has no end
pub data HasFault (files : List TextFile) (name : List ℕ) (kind : Way) : Fault → Type 0 where
  not_there : takes_file kind ≡ true → bytes_named files name ≡ None
      → HasFault files name kind no_file
  not_a_text : (bytes : List ℕ) → takes_text kind ≡ true → bytes_named files name ≡ Some bytes
      → (IsUtf8 (behind_mark bytes) → ⊥) → HasFault files name kind no_text
  not_rules : (bytes : List ℕ) → takes_text kind ≡ true → bytes_named files name ≡ Some bytes
      → IsUtf8 (behind_mark bytes) → said_of kind (behind_mark bytes) ≡ None
      → HasFault files name kind (fault_of kind)

-- What a text has become so far, as the code holds it.
use Rattle.std.specs.Prelude.{◌≡◌, ◌+◌, ℕ, List, Some, map, slice_range}
use Rattle.std.specs.Borrow.{Bor}
use Rattle.std.specs.Str.{IsUtf8}
use Rattle.std.specs.String.{string_bytes}
use Rattle.resb_icu_text.specs.Lexemes.{bytes_said}
use Rattle.resb_icu_files.specs.Writing.{Output, Written, HasFault, no_file, no_text, no_rules}
use Rattle.resb_icu_files.specs.Writing.{no_collation_rules, with_listed, behind_mark}
use Rattle.resb_icu_files.specs.Ways.{bytes_named}
use Rattle.resb_icu_files.specs.Writing.{rewritten, fault_of}
use Rattle.resb_icu_files.specs.TakenIn.{named_of}
use Rattle.resb_icu_files.specs.declared.error.FilesError.{FilesError}
use Rattle.resb_icu_files.specs.declared.error.FilesError.TheVariants as fails
use Rattle.resb_icu_files.specs.declared.file.TextFile.{TextFile}
use Rattle.resb_icu_files.specs.declared.file.FileNamed.{FileNamed}
use Rattle.resb_icu_files.specs.declared.group.Group.{Group}
use Rattle.resb_icu_files.specs.declared.making.Making.{Making}
use Rattle.resb_icu_files.specs.declared.taken.TakenIn.{TakenIn}
use Rattle.resb_icu_files.specs.declared.way.Way.{Way}

-- the output so far
abbrev pub output_of : Making → Output
output_of m = record {
  said = string_bytes m.text;
  listed = string_bytes m.listed;
  dependencies = map named_of m.dependencies.items;
  changes = m.changes.items;
}

-- this is the output
pub record IsOutput (t : TakenIn) (output : Output) : Type 0 where
  pub said : string_bytes t.text ≡ output.said
  pub dependencies : map named_of t.dependencies.items ≡ output.dependencies
  pub changes : t.changes.items ≡ output.changes

-- a group of this kind and name at this place can't be written: it lacks its file, or a text or
-- rules in it; or memory was wanted
abbrev pub WriteFails : List TextFile → List ℕ → Way → ℕ → FilesError → Type 0
WriteFails files name kind at (fails.Missing f) =
    HasFault files name kind no_file × (f.place ≡ at) × (string_bytes f.name ≡ name)
WriteFails files name kind at (fails.NotUtf8 f) =
    HasFault files name kind no_text × (f.place ≡ at) × (string_bytes f.name ≡ name)
WriteFails files name kind at (fails.NoRules f) =
    HasFault files name kind no_rules × (f.place ≡ at) × (string_bytes f.name ≡ name)
WriteFails files name kind at (fails.NoCollationRules f) =
    HasFault files name kind no_collation_rules × (f.place ≡ at) × (string_bytes f.name ≡ name)
WriteFails files name kind at fails.OutOfMemory = Unit {0}

-- this says that there are none of the rules that a group of this type takes in the file
abbrev pub IsWithoutRules : Way → FileNamed → FilesError → Type 0
IsWithoutRules kind file (fails.NoRules f) = (fault_of kind ≡ no_rules) × (f ≡ file)
IsWithoutRules kind file (fails.NoCollationRules f) =
    (fault_of kind ≡ no_collation_rules) × (f ≡ file)
IsWithoutRules kind file _ = ⊥

-- some bytes were written for a group, in place of what stands there
pub record IsWritten (files : List TextFile) (text : List ℕ) (g : Group)
    (old new : Output) : Type 0 where
  pub bytes : List ℕ
  pub written : Written files (slice_range text (g.brace + 1) g.last) (bytes_said g.name) g.kind
      bytes
  pub makes : new ≡ with_listed g.kind (slice_range text (g.brace + 1) g.last) g.at
      (bytes_said g.name) (rewritten g.at (g.last + 1) bytes old)

-- this is the text of the file of a name, behind its mark
pub record IsTextOf (files : List TextFile) (name : List ℕ) (text : Bor (List ℕ)) : Type 0 where
  pub bytes : List ℕ
  pub found : bytes_named files name ≡ Some bytes
  pub said : text.now ≡ behind_mark bytes
  pub whole : IsUtf8 (behind_mark bytes)

-- A text of ICU's form, taken in: what it is once the files that its groups name are written in.
--     IsTakenIn files text t      t is what the text is taken in as
--     FirstFault files text f p n the group at p can't be written by the file n, since f
use Rattle.std.specs.Prelude.{◌≡◌, ◌+◌, ◌==◌, ℕ, Option, Some, None, List, [], ◌∷◌, ◌++◌, length}
use Rattle.std.specs.Prelude.{slice_range}
use Rattle.std.specs.Prelude.{if◌then◌else◌, map}
use Rattle.std.specs.String.{string_bytes}
use Rattle.resb_icu_files.specs.Ways.{FileGroup, takes_file}
use Rattle.resb_icu_files.specs.Stretches.{Stretch, Ends, closer_at}
use Rattle.resb_icu_files.specs.Writing.{Named, Output, no_output, copied, rewritten, with_listed}
use Rattle.resb_icu_files.specs.Writing.{entry_of, Written, Fault, HasFault, no_file, no_text}
use Rattle.resb_icu_files.specs.Writing.{no_rules, no_collation_rules}
use Rattle.resb_icu_files.specs.declared.error.FilesError.{FilesError}
use Rattle.resb_icu_files.specs.declared.error.FilesError.TheVariants as fails
use Rattle.resb_icu_files.specs.declared.file.TextFile.{TextFile}
use Rattle.resb_icu_files.specs.declared.file.FileNamed.{FileNamed}
use Rattle.resb_icu_files.specs.declared.taken.TakenIn.{TakenIn}
use Rattle.resb_icu_files.specs.declared.way.Way.{Way}

-- a group is passed: what stands before it is copied, and it is written anew
abbrev pub with_group : List ℕ → ℕ → ℕ → Way → ℕ → ℕ → List ℕ → List ℕ → Output → Output
with_group text from at kind brace last name bytes output =
    with_listed kind (slice_range text (brace + 1) last) at name
    (rewritten at (last + 1) bytes (copied text from at output))

-- the root ends, or the text: what is left of it is copied; and where there are dependencies and
-- the root closes, their entry is written right before its `}`
abbrev pub ended : List ℕ → ℕ → Option ℕ → Output → Output
ended text from None output = copied text from (length text) output
ended text from (Some closer) output =
    if length output.listed == 0 then copied text from (length text) output
    else copied text closer (length text)
    (rewritten closer closer (entry_of output.listed) (copied text from closer output))

-- the file that a group names, with the place of the group
abbrev pub named_of : FileNamed → Named
named_of f = record { place = f.place; name = string_bytes f.name }

-- the file of a group, if it takes one in
abbrev pub taken_by : Way → ℕ → List ℕ → List Named
taken_by kind place name =
    if takes_file kind then record { place = place; name = name } ∷ [] else []

-- behind a place where so many groups are open, a text takes these files in
pub data TakesFiles (text : List ℕ) : ℕ → ℕ → List Named → Type 0 where
  none_more : (from depth to last : ℕ) → Stretch text from depth to last → Ends text to last
      → TakesFiles text from depth []
  one_more : (from depth at deep brace last : ℕ) (kind : Way) (name : List ℕ)
      (files : List Named) → Stretch text from depth at deep
      → FileGroup text at kind brace last name → TakesFiles text (last + 1) deep files
      → TakesFiles text from depth (taken_by kind at name ++ files)

-- with this output for a text up to a place where so many groups are open, that is the output in
-- the end
pub data Taken (files : List TextFile) (text : List ℕ) : ℕ → ℕ → Output → Output → Type 0 where
  ends : (from depth to last : ℕ) (output : Output) → Stretch text from depth to last
      → Ends text to last
      → Taken files text from depth output (ended text from (closer_at text to) output)
  group : (from depth at deep brace last : ℕ) (kind : Way) (name bytes : List ℕ)
      (output end : Output) → Stretch text from depth at deep
      → FileGroup text at kind brace last name
      → Written files (slice_range text (brace + 1) last) name kind bytes
      → Taken files text (last + 1) deep
      (with_group text from at kind brace last name bytes output) end
      → Taken files text from depth output end

-- behind a place where so many groups are open, the first group that can't be written stands at
-- `at` and names this file
pub data FaultFrom (files : List TextFile) (text : List ℕ) (fault : Fault) (at : ℕ)
    (name : List ℕ) : ℕ → ℕ → Type 0 where
  here : (from depth deep brace last : ℕ) (kind : Way) → Stretch text from depth at deep
      → FileGroup text at kind brace last name → HasFault files name kind fault
      → FaultFrom files text fault at name from depth
  later : (from depth mid deep brace last : ℕ) (kind : Way) (other bytes : List ℕ)
      → Stretch text from depth mid deep → FileGroup text mid kind brace last other
      → Written files (slice_range text (brace + 1) last) other kind bytes
      → FaultFrom files text fault at name (last + 1) deep
      → FaultFrom files text fault at name from depth

-- the first group of the text that can't be written stands at `at` and names this file
abbrev pub FirstFault : List TextFile → List ℕ → Fault → ℕ → List ℕ → Type 0
FirstFault files text fault at name = FaultFrom files text fault at name 0 0

-- no group of a text takes a file in: one stretch goes from its start up to where it ends
pub record HasNoFileGroup (text : List ℕ) : Type 0 where
  pub to : ℕ
  pub last : ℕ
  pub stretch : Stretch text 0 0 to last
  pub ends : Ends text to last

-- this is what the text is taken in as
pub record IsTakenIn (files : List TextFile) (text : List ℕ) (t : TakenIn) : Type 0 where
  pub output : Output
  pub taken : Taken files text 0 0 no_output output
  pub said : string_bytes t.text ≡ output.said
  pub dependencies : map named_of t.dependencies.items ≡ output.dependencies
  pub changes : t.changes.items ≡ output.changes

-- a group of the text lacks its file, or a text or rules in it; or memory was wanted
abbrev pub FilesFail : List TextFile → List ℕ → FilesError → Type 0
FilesFail files text (fails.Missing f) = FirstFault files text no_file f.place (string_bytes f.name)
FilesFail files text (fails.NotUtf8 f) = FirstFault files text no_text f.place (string_bytes f.name)
FilesFail files text (fails.NoRules f) =
    FirstFault files text no_rules f.place (string_bytes f.name)
FilesFail files text (fails.NoCollationRules f) =
    FirstFault files text no_collation_rules f.place (string_bytes f.name)
FilesFail files text fails.OutOfMemory = Unit {0}

-- What the program writes for what it reads, and why it fails.
--     within most bytes       bytes, where there are at most so many of them
--     Writes input old new    the writer gained the hex line of a file of the text
--     IsNoInput input e       these bytes have no file, for this reason
--     HasReason input e       the same, or a stream or memory failed: the writer's only once there
--                             is a file
--     CountsFile bytes r      what checking a file answers
--     ReadsCounted bytes r    what `from_bytes_counted::<Resource>` promises of its answer
--     Agrees has r s          the answer of a check beside that of a reading: the same count, or
--                             the same refusal, want of memory aside
use Rattle.std.specs.Prelude.{◌≡◌, ◌≤◌, ◌⊎◌, ℕ, List, [], ◌∷◌, ◌++◌, codes, IsUtf8, Option, Some}
use Rattle.std.specs.Prelude.{Result, Ok, Err, None, length, nat_le, if◌then◌else◌}
use Rattle.std.specs.Io.KnownBytes.{Appends}
use Rattle.hex.specs.Hex.{encode_lower}
use Rattle.resb_format.specs.Error as reading
use Rattle.resb_format.specs.Error.{kind_of, description_of, IsWantOfMemory, refusal_of}
use Rattle.resb_head.specs.File.{Denotes, budget}
use Rattle.resb_format.specs.declared.error.ReadingError.{ReadingError}
use Rattle.resb_read.specs.RefusedReadings.{RefusesTree}
use Rattle.resb_read.specs.Resources.{DenPlace}
use Rattle.resb_read.specs.Roots.{HoldsAt, RefusesAt, AnswersCountOf, alone}
use Rattle.resb_tree.specs.View.{tree_of}
use Rattle.resb_tree.specs.declared.resource.Resource.{Resource}
use Rattle.resb_compile.specs.Errors as compiling
use Rattle.resb_compile.specs.Compiling.{IsCompiled, IsRefused}
use Rattle.resb_program.specs.declared.errors.ToolError.{ToolError}
use Rattle.resb_program.specs.declared.errors.ToolError.TheVariants.{Input, Output, NotUtf8}
use Rattle.resb_program.specs.declared.errors.ToolError.TheVariants.{Compiling, Checking, Memory}

-- bytes, where there are at most so many of them
abbrev pub within : ℕ → List ℕ → Option (List ℕ)
within most bytes = if nat_le (length bytes) most then Some bytes else None

-- the text has a file, and the writer gained the file's hex digits and a line feed
pub record Writes (input : List ℕ) (old new : Option (List ℕ)) : Type 0 where
  pub file : List ℕ
  pub compiled : IsCompiled input file
  pub line : Appends old new (encode_lower file ++ 10 ∷ [])

-- the bytes are no UTF-8, or the text has no file for this reason
abbrev pub IsNoInput : List ℕ → ToolError → Type 0
IsNoInput input NotUtf8 = IsUtf8 input → ⊥
IsNoInput input (Compiling e) = IsUtf8 input × IsRefused input e
IsNoInput input (Checking e) = ⊥
IsNoInput input Input = ⊥
IsNoInput input Output = ⊥
IsNoInput input Memory = ⊥

-- the bytes have no file, for this reason; or they have one, and it couldn't be written; or they
-- couldn't be read to their end, or memory was wanted
abbrev pub HasReason : List ℕ → ToolError → Type 0
HasReason input NotUtf8 = IsUtf8 input → ⊥
HasReason input (Compiling e) = IsUtf8 input × IsRefused input e
HasReason input (Checking e) = ⊥
HasReason input Input = Unit {0}
HasReason input Output = IsUtf8 input × ((file : List ℕ) × IsCompiled input file)
HasReason input Memory = Unit {0}

-- a stream that fails ends the program with 2, anything else with 1
abbrev pub status_of : ToolError → ℕ
status_of Input = 2
status_of Output = 2
status_of NotUtf8 = 1
status_of (Compiling e) = 1
status_of (Checking e) = 1
status_of Memory = 1

-- the line that the program says of an error
abbrev pub message_of : ToolError → List ℕ
message_of Input = codes "cannot read standard input"
message_of Output = codes "cannot write standard output"
message_of NotUtf8 = codes "input is not UTF-8"
message_of (Compiling e) = compiling.message_of e
message_of (Checking e) = description_of (kind_of e) ++ (codes ": " ++ reading.message_of e)
message_of Memory = codes "out of memory"

-- the number of resources of the file's tree, or the reader's refusal
abbrev pub CountsFile : List ℕ → Result ℕ ToolError → Type 0
CountsFile bytes (Ok n) = AnswersCountOf (alone bytes) (Ok n)
CountsFile bytes (Err (Checking e)) = AnswersCountOf (alone bytes) (Err e)
CountsFile bytes (Err NotUtf8) = ⊥
CountsFile bytes (Err (Compiling e)) = ⊥
CountsFile bytes (Err Input) = ⊥
CountsFile bytes (Err Output) = ⊥
CountsFile bytes (Err Memory) = ⊥

-- a tree at the root, read with a count within the budget, or its refusal there
abbrev pub ReadsCounted : List ℕ → Result (Resource × ℕ) ReadingError → Type 0
ReadsCounted bytes (Ok r) =
    HoldsAt (λ p. DenPlace p (tree_of r.0) r.1) (alone bytes) × (r.1 ≤ budget bytes)
ReadsCounted bytes (Err e) = RefusesAt RefusesTree (alone bytes) e

-- where both are Ok, the value that is read has the count; where one is refused and the other
-- isn't, for want of memory; and where both are, for want of memory or by the same refusal
abbrev pub Agrees : {X : Type 0} → (X → ℕ → Type 0) → Result ℕ ToolError → Result X ReadingError
    → Type 0
Agrees has (Ok n) (Ok x) = has x n
Agrees has (Ok n) (Err e) = IsWantOfMemory e
Agrees has (Err (Checking e)) (Ok x) = IsWantOfMemory e
Agrees has (Err (Checking e)) (Err d) =
    (IsWantOfMemory e ⊎ IsWantOfMemory d) ⊎ (refusal_of e ≡ refusal_of d)
Agrees has (Err NotUtf8) r = ⊥
Agrees has (Err (Compiling e)) r = ⊥
Agrees has (Err Input) r = ⊥
Agrees has (Err Output) r = ⊥
Agrees has (Err Memory) r = ⊥

-- a value that was read with its count
abbrev pub HasCount : Resource × ℕ → ℕ → Type 0
HasCount r n = n ≡ r.1

-- a tree that the file denotes with this count
abbrev pub IsCounted : List ℕ → Resource → ℕ → Type 0
IsCounted bytes r n = Denotes bytes (tree_of r) n

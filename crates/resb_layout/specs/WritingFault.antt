-- Why a file isn't written.
--     message_of f            the text that it prints as
use Rattle.std.specs.Prelude.{ℕ, List, ◌++◌, codes}
use Rattle.std.specs.Fmt.{decimal}

-- a string too long, something that can't be written, a limit passed, or want of memory
pub data WritingFault : Type 0 where
  -- a string of so many 16-bit units
  string_too_long : ℕ → WritingFault
  unexpected : List ℕ → WritingFault
  limit : List ℕ → WritingFault
  out_of_memory : WritingFault

-- what each fault prints
abbrev pub message_of : WritingFault → List ℕ
message_of (string_too_long n) =
    codes "Cannot serialize string of length " ++
    (decimal n ++ codes ", maximum is 4,294,967,295 characters")
message_of (unexpected message) = codes "Unexpected error: " ++ message
message_of (limit message) = codes "Limit exceeded: " ++ message
message_of out_of_memory = codes "Out of memory: while writing"

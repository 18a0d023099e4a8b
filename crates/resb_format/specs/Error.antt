-- What a refusal of reading says.
--     IsRefusal e kind m      the refusal e is of this kind and has the message m
--     refusal_of e            its kind and its message
--     end_message             what is said where a part of the file lies past its end
--     first_refusal checks    the refusal of the first check that fails
--     ReadsUnless f Holds r   the answer r: the refusal f, if there is one, else a value
use Rattle.std.specs.Prelude.{◌≡◌, ℕ, List, [], ◌∷◌, codes, Bool, if◌then◌else◌, Option, Some, None}
use Rattle.std.specs.Prelude.{Result, MatchResult}
use Rattle.resb_format.specs.declared.error.ErrorKind.{ErrorKind}
use Rattle.resb_format.specs.declared.error.ErrorKind.TheVariants.{InvalidData}
use Rattle.resb_format.specs.declared.error.ErrorKind.TheVariants.{ResourceTypeMismatch}
use Rattle.resb_format.specs.declared.error.ErrorKind.TheVariants.{UnsupportedFormat, Unknown}
use Rattle.resb_format.specs.declared.error.ErrorKind.TheVariants.{OutOfMemory}
use Rattle.resb_format.specs.declared.error.ReadingError.{ReadingError}

-- an error's kind
abbrev pub kind_of : ReadingError → ErrorKind
kind_of e = e.kind

-- an error's message, as bytes
abbrev pub message_of : ReadingError → List ℕ
message_of e = e.message.now

-- the error is of this kind and has this message
pub record IsRefusal (e : ReadingError) (kind : ErrorKind) (message : List ℕ) : Type 0 where
  pub kind_is : kind_of e ≡ kind
  pub message_is : message_of e ≡ message

-- data that breaks the rules of the format
abbrev pub IsInvalid : ReadingError → List ℕ → Type 0
IsInvalid e message = IsRefusal e InvalidData message

-- a request for memory was refused while reading
abbrev pub IsWantOfMemory : ReadingError → Type 0
IsWantOfMemory e = IsRefusal e OutOfMemory (codes "while reading")

-- what is said where a part of the file lies past its end: the words `unexpected end of input`
abbrev pub end_message : List ℕ
end_message = codes "unexpected end of input"

-- a part of the file lies past its end
abbrev pub IsEndOfInput : ReadingError → Type 0
IsEndOfInput e = IsInvalid e end_message

-- bytes that are no whole number of items
abbrev pub IsWrongLength : ReadingError → Type 0
IsWrongLength e = IsRefusal e Unknown (codes "Wrong length")

-- what is answered: a kind and a message
abbrev pub Refusal : Type 0
Refusal = ErrorKind × List ℕ

-- a refusal of data that is wrong, with this message
abbrev pub invalid : List ℕ → Refusal
invalid message = (InvalidData, message)

-- a refusal of a file of another kind, with this message
abbrev pub unsupported : List ℕ → Refusal
unsupported message = (UnsupportedFormat, message)

-- the refusal where a part of the file lies past its end
abbrev pub end_of_input : Refusal
end_of_input = invalid end_message

-- what an error tells
abbrev pub refusal_of : ReadingError → Refusal
refusal_of e = (kind_of e, message_of e)

-- the refusal of the first check that fails; a check is a test and the refusal where it fails
abbrev pub first_refusal : {E : Type 0} → List (Bool × E) → Option E
first_refusal [] = None
first_refusal ((holds, refusal) ∷ checks) =
    if holds then first_refusal checks else Some refusal

-- where there is no refusal, a value of which this holds; else that refusal
abbrev pub ReadsUnless : {A : Type 0} → Option Refusal → (A → Type 0) → Result A ReadingError
    → Type 0
ReadsUnless refusal Holds r =
    MatchResult r (λ x. (refusal ≡ None) × Holds x) (λ e. refusal ≡ Some (refusal_of e))

-- what a kind prints
abbrev pub description_of : ErrorKind → List ℕ
description_of InvalidData = codes "Invalid resource bundle data"
description_of ResourceTypeMismatch = codes "Resource did not match expected data type"
description_of UnsupportedFormat = codes "Unsupported resource bundle format"
description_of Unknown = codes "Unknown error"
description_of OutOfMemory = codes "Out of memory"

-- What an error of printing says.
use Rattle.std.specs.Prelude.{ℕ, List, codes}
use Rattle.resb_print.specs.declared.cause.Cause.{Cause}
use Rattle.resb_print.specs.declared.cause.Cause.TheVariants.{RootIsNoTable, QuoteInName}
use Rattle.resb_print.specs.declared.cause.Cause.TheVariants.{QuoteInKey, QuoteInString, Alias}
use Rattle.resb_print.specs.declared.cause.Cause.TheVariants.{NameIsNoWord, KeyHasOtherBytes}
use Rattle.resb_print.specs.declared.error.PrintError.{PrintError}
use Rattle.resb_print.specs.declared.error.PrintError.TheVariants.{NotPrintable, Larger}
use Rattle.resb_print.specs.declared.error.PrintError.TheVariants.{OutOfMemory}

-- what is said of a cause
abbrev pub cause_message : Cause → List ℕ
cause_message RootIsNoTable = codes "the root is no table"
cause_message QuoteInName = codes "the name holds a '\"'"
cause_message QuoteInKey = codes "a key holds a '\"'"
cause_message QuoteInString = codes "a string holds a '\"'"
cause_message Alias = codes "the plain form has no aliases"
cause_message NameIsNoWord = codes "the name is no word"
cause_message KeyHasOtherBytes = codes "a key has a character that may not stand in one"

-- what the error prints as
abbrev pub message_of : PrintError → List ℕ
message_of (NotPrintable c) = cause_message c
message_of (Larger n) = codes "text larger than the limit"
message_of OutOfMemory = codes "out of memory"

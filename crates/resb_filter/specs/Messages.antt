-- What is printed where a text isn't read as rules.
--     fault_message f     what is wrong with a line
--     message_of e        the text that an error prints as
use Rattle.std.specs.Prelude.{ℕ, List, ◌++◌, codes}
use Rattle.std.specs.Fmt.{decimal}
use Rattle.resb_filter.specs.declared.error.RuleError.{RuleError}
use Rattle.resb_filter.specs.declared.error.RuleError.TheVariants.{Line, OutOfMemory}
use Rattle.resb_filter.specs.declared.error.RuleFault.{RuleFault}
use Rattle.resb_filter.specs.declared.error.RuleFault.TheVariants.{NoSign, NoSlash, EmptyPiece}

-- what is wrong with a line, as it is printed
abbrev pub fault_message : RuleFault → List ℕ
fault_message NoSign = codes "a rule begins with + or -"
fault_message NoSlash = codes "a rule's path begins with /"
fault_message EmptyPiece = codes "a piece of a rule's path is empty"

-- what an error prints as
abbrev pub message_of : RuleError → List ℕ
message_of (Line n f) = codes "line " ++ (decimal n ++ (codes ": " ++ fault_message f))
message_of OutOfMemory = codes "out of memory"

-- What is printed where strings aren't planned.
--     message_of e            the text that an error prints as
use Rattle.std.specs.Prelude.{ℕ, List, ◌++◌, codes}
use Rattle.std.specs.Fmt.{decimal}
use Rattle.resb_pool.specs.declared.error.PlanError.{PlanError}
use Rattle.resb_pool.specs.declared.error.PlanError.TheVariants.{StringTooLong, TooLarge}
use Rattle.resb_pool.specs.declared.error.PlanError.TheVariants.{OutOfMemory}

-- what each refusal prints
abbrev pub message_of : PlanError → List ℕ
message_of (StringTooLong n) =
    codes "string of " ++ (decimal n ++ codes " units, more than 4294967295")
message_of TooLarge = codes "strings too large"
message_of OutOfMemory = codes "out of memory"

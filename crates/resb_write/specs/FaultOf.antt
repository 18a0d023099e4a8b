-- The fault that an error shows.
--     fault_of e              the fault
--     plan_fault e            the fault that is answered where strings aren't planned
use Rattle.std.specs.Prelude.{codes}
use Rattle.resb_pool.specs.declared.error.PlanError.{PlanError}
use Rattle.resb_pool.specs.declared.error.PlanError.TheVariants as plan
use Rattle.resb_layout.specs.WritingFault.{WritingFault, string_too_long, unexpected, limit}
use Rattle.resb_layout.specs.WritingFault.{out_of_memory}
use Rattle.resb_write.specs.declared.error.Kind.{Kind}
use Rattle.resb_write.specs.declared.error.Kind.TheVariants.{StringTooLong, Unexpected, Limit}
use Rattle.resb_write.specs.declared.error.Kind.TheVariants.{OutOfMemory}
use Rattle.resb_write.specs.declared.error.BinarySerializerError.{BinarySerializerError}

-- the fault that an error's kind stands for
abbrev pub kind_fault : Kind → WritingFault
kind_fault (StringTooLong n) = string_too_long n
kind_fault (Unexpected message) = unexpected message.now
kind_fault (Limit message) = limit message.now
kind_fault OutOfMemory = out_of_memory

-- the fault that an error shows
abbrev pub fault_of : BinarySerializerError → WritingFault
fault_of e = kind_fault e.kind

-- the fault that is answered where strings aren't planned
abbrev pub plan_fault : PlanError → WritingFault
plan_fault (plan.StringTooLong n) = string_too_long n
plan_fault plan.TooLarge = limit (codes "file too large")
plan_fault plan.OutOfMemory = out_of_memory

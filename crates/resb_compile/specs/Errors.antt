-- What an error of compiling says.
--     message_of e            the text that it prints as
--     position_of e           the byte of the text at which a reading gets stuck, if one does
--     IsMemory e              memory was wanted
use Rattle.std.specs.Prelude.{◌≡◌, ℕ, List, Option, Some, None, codes}
use Rattle.resb_grammar.specs.declared.expected.Expected.TheVariants as expect
use Rattle.resb_icu_grammar.specs.declared.expected.IcuExpected.TheVariants as icu_expect
use Rattle.resb_text.specs.Refusal as refusal
use Rattle.resb_icu_text.specs.Refusal as icu_refusal
use Rattle.resb_layout.specs.WritingFault as fault
use Rattle.resb_write.specs.FaultOf.{fault_of}
use Rattle.resb_compile.specs.declared.error.CompileError.{CompileError}
use Rattle.resb_compile.specs.declared.error.CompileError.TheVariants.{Reading, ReadingIcu}
use Rattle.resb_compile.specs.declared.error.CompileError.TheVariants.{Writing, Larger}

-- what the error prints: the text of the error inside, or that the text is larger than the limit
abbrev pub message_of : CompileError → List ℕ
message_of (Reading e) = refusal.message_of e
message_of (ReadingIcu e) = icu_refusal.message_of e
message_of (Writing e) = fault.message_of (fault_of e)
message_of (Larger limit) = codes "text larger than the limit"

-- the reader's place in the text; a tree that isn't written and a limit have none
abbrev pub position_of : CompileError → Option ℕ
position_of (Reading e) = Some e.position
position_of (ReadingIcu e) = Some e.position
position_of (Writing e) = None
position_of (Larger limit) = None

-- the reader or the writer wanted memory
abbrev pub IsMemory : CompileError → Type 0
IsMemory (Reading e) = e.expected ≡ expect.Memory
IsMemory (ReadingIcu e) = e.expected ≡ icu_expect.Memory
IsMemory (Writing e) = fault_of e ≡ fault.out_of_memory
IsMemory (Larger limit) = ⊥

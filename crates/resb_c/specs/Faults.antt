-- The numbers and places that the caller in C gets of a fault, and what it prints.
--     number_of f             the status that the header names
--     place_of f              the byte of the text at which it can't be read on
--     message_of f            what it prints as
use Rattle.std.specs.Prelude.{ℕ, List, ◌++◌, codes, decimal, unwrap_or}
use Rattle.resb_grammar.specs.declared.expected.Expected.{Expected}
use Rattle.resb_grammar.specs.declared.expected.Expected.TheVariants as expect
use Rattle.resb_icu_grammar.specs.declared.expected.IcuExpected.{IcuExpected}
use Rattle.resb_icu_grammar.specs.declared.expected.IcuExpected.TheVariants as icu_expect
use Rattle.resb_format.specs.Error.{kind_of, description_of}
use Rattle.resb_format.specs.Error as reading
use Rattle.resb_format.specs.declared.error.ErrorKind.{ErrorKind}
use Rattle.resb_format.specs.declared.error.ErrorKind.TheVariants as kind
use Rattle.resb_layout.specs.WritingFault as fault
use Rattle.resb_write.specs.FaultOf.{fault_of}
use Rattle.resb_print.specs.Message as print
use Rattle.resb_print.specs.declared.error.PrintError.{PrintError}
use Rattle.resb_print.specs.declared.error.PrintError.TheVariants as printing
use Rattle.resb_compile.specs.declared.error.CompileError.{CompileError}
use Rattle.resb_compile.specs.declared.error.CompileError.TheVariants.{Reading, ReadingIcu}
use Rattle.resb_compile.specs.declared.error.CompileError.TheVariants as compiling
use Rattle.resb_compile.specs.declared.error.CompileError.TheVariants.{Writing}
use Rattle.resb_compile.specs.Errors as compile
use Rattle.resb_program.specs.Messages.{file_message}
use Rattle.resb_program.specs.declared.errors.FileError.TheVariants as file_error
use Rattle.resb_swap.specs.Message.{printed as swap_message}
use Rattle.resb_swap.specs.declared.error.SwapError.{SwapError}
use Rattle.resb_swap.specs.declared.error.SwapError.TheVariants as swap
use Rattle.resb_zoneinfo.specs.Message.{zone_message}
use Rattle.resb_zoneinfo.specs.declared.checking.ZoneError.{ZoneError}
use Rattle.resb_zoneinfo.specs.declared.checking.ZoneError.TheVariants as zone
use Rattle.resb_c.specs.declared.fault.Fault.{Fault}
use Rattle.resb_c.specs.declared.fault.Fault.TheVariants as the
use Rattle.resb_c.specs.declared.fault.Fault.TheVariants.{TooShort, NotUtf8, Compiling}
use Rattle.resb_c.specs.declared.fault.Fault.TheVariants.{UsesPool, Pool, Larger, LongKeys}
use Rattle.resb_c.specs.declared.fault.Fault.TheVariants.{BadOptions, Printing}
use Rattle.resb_c.specs.declared.fault.Fault.TheVariants.{NotFound, OtherKind, Zone}
use Rattle.resb_c.specs.declared.fault.Fault.TheVariants.{Swapping}

-- a text that isn't read is 3, want of memory 8
abbrev pub text_number : Expected → ℕ
text_number expect.Memory = 8
text_number _ = 3

-- the same of a text of ICU's form
abbrev pub icu_text_number : IcuExpected → ℕ
icu_text_number icu_expect.Memory = 8
icu_text_number _ = 3

-- a tree that isn't written is 4, want of memory 8
abbrev pub tree_number : fault.WritingFault → ℕ
tree_number fault.out_of_memory = 8
tree_number _ = 4

-- a file that isn't read is 5, one of another form 6, want of memory 8
abbrev pub file_number : ErrorKind → ℕ
file_number kind.UnsupportedFormat = 6
file_number kind.OutOfMemory = 8
file_number _ = 5

-- a tree that has no text is 7, one whose text is over the limit 10, want of memory 8
abbrev pub print_number : PrintError → ℕ
print_number (printing.NotPrintable cause) = 7
print_number (printing.Larger limit) = 10
print_number printing.OutOfMemory = 8

-- why a text isn't compiled: the number of the reader's fault, or of the writer's, and 10 where
-- reading makes more bytes than the limit
abbrev pub compile_number : CompileError → ℕ
compile_number (Reading e) = text_number e.expected
compile_number (ReadingIcu e) = icu_text_number e.expected
compile_number (Writing e) = tree_number (fault_of e)
compile_number (compiling.Larger limit) = 10

-- no zone of a name is 12, a zone with a fault 14
abbrev pub zone_number : ZoneError → ℕ
zone_number zone.NoZone = 12
zone_number _ = 14

-- a file that isn't swapped is 5, one of another form 6, want of memory 8
abbrev pub swap_number : SwapError → ℕ
swap_number (swap.Header e) = file_number (kind_of e)
swap_number swap.Ebcdic = 6
swap_number swap.OtherCharacters = 6
swap_number swap.FirstVersion = 6
swap_number swap.NoMemory = 8
swap_number _ = 5

-- a buffer that is too short is 1, bytes that aren't UTF-8 are 2, a file that lacks its pool bundle
-- is 9, a tree or its keys over the limit 10, a pool's bytes that are no pool bundle 11, nothing at
-- a path 12, another kind at it 13, options that ask for nothing 15, and else the fault's own
-- number
abbrev pub number_of : Fault → ℕ
number_of (TooShort n) = 1
number_of (NotUtf8 n) = 2
number_of (Compiling e) = compile_number e
number_of (the.Reading e) = file_number (kind_of e)
number_of UsesPool = 9
number_of (Pool e) = 11
number_of (Larger n limit) = 10
number_of (LongKeys n limit) = 10
number_of (Printing e) = print_number e
number_of NotFound = 12
number_of OtherKind = 13
number_of (Zone e) = zone_number e
number_of (Swapping e) = swap_number e
number_of BadOptions = 15

-- the reader's place in the text, and 0 for a tree that isn't written and a text that is too large
abbrev pub compile_place : CompileError → ℕ
compile_place e = unwrap_or (compile.position_of e) 0

-- the byte at which the text is no UTF-8 or isn't read on, and 0 for any other fault
abbrev pub place_of : Fault → ℕ
place_of (TooShort n) = 0
place_of (NotUtf8 n) = n
place_of (Compiling e) = compile_place e
place_of (the.Reading e) = 0
place_of UsesPool = 0
place_of (Pool e) = 0
place_of (Larger n limit) = 0
place_of (LongKeys n limit) = 0
place_of (Printing e) = 0
place_of NotFound = 0
place_of OtherKind = 0
place_of (Zone e) = 0
place_of (Swapping e) = 0
place_of BadOptions = 0

-- what the error prints, but for a text that is too large
abbrev pub compile_message : CompileError → List ℕ
compile_message (compiling.Larger limit) = codes "reading the text takes more bytes than the limit"
compile_message (Reading e) = compile.message_of (Reading e)
compile_message (ReadingIcu e) = compile.message_of (ReadingIcu e)
compile_message (Writing e) = compile.message_of (Writing e)

-- what the printer's error prints, but for a text that is over the limit
abbrev pub print_message : PrintError → List ℕ
print_message (printing.NotPrintable cause) = print.message_of (printing.NotPrintable cause)
print_message (printing.Larger limit) =
    codes "the text takes more than the limit of " ++ (decimal limit ++ codes " bytes")
print_message printing.OutOfMemory = print.message_of printing.OutOfMemory

-- the length that was wanted, the place, the sizes, or what the error inside prints
abbrev pub message_of : Fault → List ℕ
message_of (TooShort n) =
    codes "the buffer is too short, " ++ (decimal n ++ codes " bytes are needed")
message_of (NotUtf8 n) = codes "not UTF-8 from byte " ++ (decimal n ++ codes " on")
message_of (Compiling e) = compile_message e
message_of (the.Reading e) = description_of (kind_of e) ++ (codes ": " ++ reading.message_of e)
message_of UsesPool = codes "the file uses a pool bundle, and none was given"
message_of (Pool e) = description_of (kind_of e) ++ (codes ": " ++ reading.message_of e)
message_of (Larger n limit) = file_message (file_error.Larger n limit)
message_of (LongKeys n limit) = file_message (file_error.LongKeys n limit)
message_of (Printing e) = print_message e
message_of NotFound = codes "nothing stands at the path"
message_of OtherKind = codes "what stands at the path is of another kind"
message_of (Zone e) = zone_message e
message_of (Swapping e) = swap_message e
message_of BadOptions = codes "the options are of another size or have no such form"

-- What is said where a text has no file and where a file isn't read.
--     source_message e        what a SourceError prints as
--     file_message e          what a FileError prints as
use Rattle.std.specs.Prelude.{ℕ, List, ◌++◌, codes, decimal, Some, None}
use Rattle.resb_format.specs.Error as reading
use Rattle.resb_format.specs.Error.{kind_of, description_of}
use Rattle.resb_grammar.specs.Expected as plain
use Rattle.resb_icu_grammar.specs.Expected as of_icu
use Rattle.resb_compile.specs.Errors as compiling
use Rattle.resb_compile.specs.declared.error.CompileError.TheVariants as compile
use Rattle.resb_program.specs.declared.errors.SourceError.{SourceError}
use Rattle.resb_program.specs.declared.errors.SourceError.TheVariants as source
use Rattle.resb_program.specs.declared.errors.FileError.{FileError}
use Rattle.resb_program.specs.declared.errors.FileError.TheVariants as file

-- a text that isn't read says what was expected, or the limit that it is larger than, and one that
-- isn't written why
abbrev pub source_message : SourceError → List ℕ
source_message (source.NotUtf8 place) = codes "this is no UTF-8"
source_message (source.Refused (compile.Reading e)) =
    codes "expected " ++ plain.item_of e.expected
source_message (source.Refused (compile.Writing e)) = compiling.message_of (compile.Writing e)
source_message (source.Refused (compile.ReadingIcu e)) =
    codes "expected " ++ of_icu.item_of e.expected
source_message (source.Refused (compile.Larger limit)) =
    codes "reading this text takes more than the limit of " ++ (decimal limit ++ codes " bytes")

-- a file that is too large says how large it is, where that fits in 64 bits, and the limit
abbrev pub file_message : FileError → List ℕ
file_message file.UsesPool = codes "this file uses a pool bundle, and none is given"
file_message (file.Larger (Some n) limit) =
    codes "the tree takes "
    ++ (decimal n ++ (codes " bytes, more than the limit of " ++ decimal limit))
file_message (file.Larger None limit) =
    codes "the tree takes more than the limit of " ++ (decimal limit ++ codes " bytes")
file_message (file.LongKeys (Some n) limit) =
    codes "the keys of its entries take "
    ++ (decimal n ++ (codes " bytes, more than the limit of " ++ decimal limit))
file_message (file.LongKeys None limit) =
    codes "the keys of its entries take more than the limit of "
    ++ (decimal limit ++ codes " bytes")
file_message (file.Reading e) =
    description_of (kind_of e) ++ (codes ": " ++ reading.message_of e)

-- What a refusal prints.
use Rattle.std.specs.Prelude.{ℕ, List, ◌++◌, codes, decimal}
use Rattle.std.specs.String.{string_bytes}
use Rattle.resb_icu_files.specs.declared.error.FilesError.{FilesError}
use Rattle.resb_icu_files.specs.declared.error.FilesError.TheVariants as fails

-- the place, and which file isn't there or is no text, or has no rules; or that memory was wanted
abbrev pub message_of : FilesError → List ℕ
message_of (fails.Missing f) =
    codes "at byte " ++ (decimal f.place ++ (codes ": no file " ++ string_bytes f.name))
message_of (fails.NotUtf8 f) =
    codes "at byte " ++ (decimal f.place ++ (codes ": no UTF-8 in file " ++ string_bytes f.name))
message_of (fails.NoRules f) =
    codes "at byte " ++ (decimal f.place ++ (codes ": no character by \\u in file "
    ++ string_bytes f.name))
message_of (fails.NoCollationRules f) =
    codes "at byte " ++ (decimal f.place ++ (codes ": no collation rules in file "
    ++ string_bytes f.name))
message_of fails.OutOfMemory = codes "out of memory"

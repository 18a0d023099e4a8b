-- What a blame prints as.
--     key_text name           what a key prints as
--     step_text step          what a step of a path prints as
--     divider_text path       what stands before the steps of a path that are behind a step
--     path_text path          what a path prints as, before what is said of its end
--     error_text e            what an error of a reading prints as
--     field_text name         what is said of a field that is missing
--     blame_text b            what a blame prints as
use Rattle.std.specs.Prelude.{ℕ, List, [], ◌∷◌, ◌++◌, Option, Some, None, codes, nat_eq}
use Rattle.std.specs.Prelude.{encode_utf8, if◌then◌else◌}
use Rattle.std.specs.Fmt.{decimal}
use Rattle.std.specs.List.{flat_map}
use Rattle.std.specs.Str.{chars}
use Rattle.resb_diff.specs.Differences.{Step, by_key, by_number}
use Rattle.resb_format.specs.Error.{kind_of, message_of, description_of}
use Rattle.resb_format.specs.declared.error.ReadingError.{ReadingError}
use Rattle.resb_blame.specs.Blamed.{Blamed}

-- `~1` for a slash, `~0` for a tilde, and any other character as it is (RFC 6901)
abbrev pub character_text : ℕ → List ℕ
character_text c =
    if nat_eq c 47 then codes "~1"
    else if nat_eq c 126 then codes "~0"
    else encode_utf8 c

-- a key, so spelled that it has no slash
abbrev pub key_text : List ℕ → List ℕ
key_text name = flat_map character_text (chars name)

-- the key; or the number in decimal digits, of which the first member has 0
abbrev pub step_text : Step → List ℕ
step_text (by_key name) = key_text name
step_text (by_number n) = decimal n

-- a slash before further steps, and a colon and a space where none comes
abbrev pub divider_text : List Step → List ℕ
divider_text [] = codes ": "
divider_text (step ∷ path) = codes "/"

-- the steps from the root, with a slash between them, and a colon and a space behind the last;
-- nothing where there is none
abbrev pub path_text : List Step → List ℕ
path_text [] = []
path_text (step ∷ path) = (step_text step ++ divider_text path) ++ path_text path

-- what is wrong in general, a colon and a space, and what is wrong in particular
abbrev pub error_text : ReadingError → List ℕ
error_text e = description_of (kind_of e) ++ codes ": " ++ message_of e

-- a colon, a space and the name of the field, if one is missing
abbrev pub field_text : Option (List ℕ) → List ℕ
field_text None = []
field_text (Some name) = codes ": " ++ name

-- the path, the error, and the field that is missing
abbrev pub blame_text : Blamed → List ℕ
blame_text b = path_text b.path ++ error_text b.error ++ field_text b.field

-- What stands at a descriptor's word, as far as its own place shows. (ICU's `uresdata.h`: resource
-- types.)
--     content_at p w          a finished tree, or the members of a collection; none where the type
--                             isn't read or a field lies outside
--     counted_text p v        the text in the body that begins with a count, at a word
use Rattle.std.specs.Prelude.{ℕ, ◌+◌, ◌*◌, ◌/◌, ◌%◌, ◌^◌, List, [], map, Option, Some, None}
use Rattle.std.specs.Prelude.{option_map, option_and_then, ◌==◌, slice_get, if◌then◌else◌}
use Rattle.std.specs.List.{zip}
use Rattle.resb_tree.specs.Tree.{Tree, string, alias, binary, integer, int_vector}
use Rattle.resb_format.specs.Bytes.{units_of, words_of, part}
use Rattle.resb_format.specs.Lookups.{text_in, wide_position}
use Rattle.resb_format.specs.Parts.{Parts, reads_older}
use Rattle.resb_format.specs.Strings.{text_of_units}
use Rattle.resb_format.specs.Types as types
use Rattle.resb_format.specs.Descriptor.{type_number}
use Rattle.resb_format.specs.declared.repr_type.ResourceReprType.TheVariants as kind

-- a member of a collection: a resource's word, or a string's unit
pub data Member : Type 0 where
  word : ℕ → Member
  unit : ℕ → Member

-- what a word leads to: a tree without parts, members in a row, or entries of key positions and
-- members
pub data Content : Type 0 where
  leaf : Tree → Content
  list : List Member → Content
  -- the key's position, which says its width too, and the member
  entry_list : List (ℕ × Member) → Content

-- what stands behind the count that is the number at place i, if there is one
abbrev pub behind_count : {A : Type 0} → List ℕ → ℕ → (ℕ → Option A) → Option A
behind_count numbers i behind = option_and_then behind (slice_get numbers i)

-- the n words of the body from word v on, as members
abbrev pub words_at : Parts → ℕ → ℕ → Option (List Member)
words_at p v n = option_map (map word) (part (words_of p.body) v n)

-- the n units of the 16-bit block from unit u on, as members
abbrev pub offsets_at : Parts → ℕ → ℕ → Option (List Member)
offsets_at p u n = option_map (map unit) (part p.block u n)

-- the positions and the members, both of which lie inside
abbrev pub paired : Option (List ℕ) → Option (List Member) → Option Content
paired positions members =
    option_and_then (λ ks. option_map (λ ms. entry_list (zip ks ms)) members) positions

-- a binary: a count of 32 bits, and behind it as many bytes
abbrev pub binary_at : Parts → ℕ → Option Content
binary_at p v =
    behind_count (words_of p.body) v
    (λ n. option_map (λ bytes. leaf (binary bytes)) (part p.body (4 * v + 4) n))

-- a vector: a count of 32 bits, and behind it as many words
abbrev pub int_vector_at : Parts → ℕ → Option Content
int_vector_at p v =
    behind_count (words_of p.body) v
    (λ n. option_map (λ ns. leaf (int_vector ns)) (part (words_of p.body) (v + 1) n))

-- an array: a count of 32 bits, and behind it as many descriptors
abbrev pub array_at : Parts → ℕ → Option Content
array_at p v = behind_count (words_of p.body) v (λ n. option_map list (words_at p (v + 1) n))

-- an array of strings in the 16-bit block: a count in one unit, and behind it as many offsets
abbrev pub array16_at : Parts → ℕ → Option Content
array16_at p u = behind_count p.block u (λ n. option_map list (offsets_at p (u + 1) n))

-- a table: a count of 16 bits and as many key positions of 16 bits, 16 bits of padding where the
-- count is even, and as many descriptors, which begin n / 2 + 1 words on for a count of n
abbrev pub table_at : Parts → ℕ → Option Content
table_at p v =
    behind_count (units_of p.body) (2 * v)
    (λ n. paired (part (units_of p.body) (2 * v + 1) n) (words_at p (v + n / 2 + 1) n))

-- a table of strings in the 16-bit block: a count in one unit, as many key positions, and as many
-- offsets
abbrev pub table16_at : Parts → ℕ → Option Content
table16_at p u =
    behind_count p.block u (λ n. paired (part p.block (u + 1) n) (offsets_at p (u + 1 + n) n))

-- a table: a count of 32 bits, as many key positions of 32 bits, and as many descriptors
abbrev pub table32_at : Parts → ℕ → Option Content
table32_at p v =
    behind_count (words_of p.body) v
    (λ n. paired (option_map (map wide_position) (part (words_of p.body) (v + 1) n))
    (words_at p (v + 1 + n) n))

-- the string that stands at a unit of the 16-bit block, if it is a text
abbrev pub text_leaf : Parts → ℕ → Option Content
text_leaf p u = option_map (λ s. leaf (string s)) (text_in p u)

-- a text in the body: a count of 32 bits, and behind it as many units of UTF-16
abbrev pub counted_text : Parts → ℕ → Option (List ℕ)
counted_text p v =
    behind_count (words_of p.body) v
    (λ n. option_and_then text_of_units (part (units_of p.body) (2 * v + 2) n))

-- a string of the older form, or an alias by its path, of this text
abbrev pub older_leaf : ℕ → Option (List ℕ) → Option Content
older_leaf type text =
    if type == type_number kind._String then option_map (λ s. leaf (string s)) text
    else if type == type_number kind._Alias then option_map (λ s. leaf (alias s)) text
    else None

-- what a type with a value other than 0 leads to
abbrev pub placed : Parts → ℕ → ℕ → Option Content
placed p type v =
    if type == type_number kind.Binary then binary_at p v
    else if type == type_number kind.Table then table_at p v
    else if type == type_number kind._Table32 then table32_at p v
    else if type == type_number kind.Table16 then table16_at p v
    else if type == type_number kind.StringV2 then text_leaf p v
    else if type == type_number kind.Array then array_at p v
    else if type == type_number kind.Array16 then array16_at p v
    else if type == type_number kind.IntVector then int_vector_at p v
    else if reads_older p then older_leaf type (counted_text p v)
    else None

-- the empty resource of a type
abbrev pub empty : Parts → ℕ → Option Content
empty p type =
    if type == type_number kind.Binary then Some (leaf (binary []))
    else if types.is_table type then Some (entry_list [])
    else if type == type_number kind.StringV2 then Some (leaf (string []))
    else if types.is_array type then Some (list [])
    else if type == type_number kind.IntVector then Some (leaf (int_vector []))
    else if reads_older p then older_leaf type (Some [])
    else None

-- what a word leads to, by the type in its upper 4 bits and the value in its lower 28: a finished
-- tree, or the members of a collection, if every field that says them lies inside its block
unfoldable pub content_at : Parts → ℕ → Option Content
content_at p w =
    let type = w / 2 ^ 28 in
    let value = w % 2 ^ 28 in
    if type == type_number kind.Int then Some (leaf (integer value))
    else if value == 0 then empty p type
    else placed p type value

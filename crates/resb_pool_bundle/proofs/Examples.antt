-- A pool bundle and a file over it at a worked example, as ICU's compiler writes the two:
-- `a{alpha{"one two three"} beta{"x"}}`, of which the pool has `one two three`, and both keys. And
-- a file over the same pool that has an alias: `d{alpha:alias{"/LOCALE/beta"} beta:int{5}}`.
use Rattle.std.proofs.Common.{◌≡◌, ℕ, List, [], ◌∷◌, ◌++◌, Some, None, refl, codes, true, zero, suc}
use Rattle.std.proofs.Common.{nat_lt, arith}
use Rattle.std.specs.Char.Utf16.{utf16_chars}
use Rattle.std.specs.Int.{to_le_bytes, w32}
use Rattle.std.specs.List.{flat_map, list_all}
use Rattle.std.specs.Str.{is_utf8, IsAscii}
use Rattle.std.proofs.lemmas.Bool.{and_parts, ltb-true}
use Rattle.std.proofs.lemmas.Str.{is_utf8-from_IsUtf8, IsUtf8-from_ascii}
use Rattle.resb_tree.specs.Tree.{Tree, string, alias, integer, table, no_entries, entry}
use Rattle.resb_format.specs.Bytes.{units_of, words_of}
use Rattle.resb_format.specs.Content.{content_at}
use Rattle.resb_format.specs.Denotes.{den_leaf, den_entries, den_word, den_unit}
use Rattle.resb_format.specs.Denotes.{entries_none, entries_more}
use Rattle.resb_format.specs.Error.{unsupported}
use Rattle.resb_format.specs.Lookups.{key_in, key_place_by, text_place_by, index_by}
use Rattle.resb_format.specs.Strings.{string_at, text_at, key_at}
use Rattle.resb_head.specs.HeadChecks.{header_checks, info_checks}
use Rattle.resb_pool_bundle.specs.Checks.{version_checks, size_checks, lending_checks, head_checks}
use Rattle.resb_pool_bundle.specs.Checks.{pool_checks, pool_refusal, pool_given_checks}
use Rattle.resb_pool_bundle.specs.Checks.{refusal_with}
use Rattle.resb_pool_bundle.specs.Checksum.{bit_step, checksum_of}
use Rattle.resb_pool_bundle.specs.Fields.{limit_in, short_limit_in}
use Rattle.resb_pool_bundle.proofs.PassingFiles.{pool_is, file_is}
use Rattle.resb_pool_bundle.specs.FileWith.{IsPoolFile, IsFileWith, DenotesWith}
use Rattle.resb_pool_bundle.specs.Pool.{pool_of, own_keys, parts_with}

abbrev header : List ℕ
header =
    32 ∷ 0 ∷ 0xda ∷ 0x27 ∷ 20 ∷ 0 ∷ 0 ∷ 0 ∷ 0 ∷ 0 ∷ 2 ∷ 0 ∷ 0x52 ∷ 0x65 ∷ 0x73 ∷ 0x42
    ∷ 3 ∷ 0 ∷ 0 ∷ 0 ∷ 1 ∷ 4 ∷ 0 ∷ 0 ∷ 0 ∷ 0 ∷ 0 ∷ 0 ∷ 0 ∷ 0 ∷ 0 ∷ 0 ∷ []

pool_file : List ℕ
pool_file = header ++ flat_map (to_le_bytes w32) (
    0x20000000 ∷ 8 ∷ 0xe ∷ 0x16 ∷ 0x16 ∷ 0 ∷ 3 ∷ 0x16 ∷ 0xe31610fa
    ∷ 0x68706c61 ∷ 0x65620061 ∷ 0x67006174 ∷ 0x616d6d61 ∷ 0xaaaaaa00
    ∷ 0x6f0000 ∷ 0x65006e ∷ 0x740020 ∷ 0x6f0077 ∷ 0x740020 ∷ 0x720068 ∷ 0x650065 ∷ 0xaaaa0000
    ∷ [])

file : List ℕ
file = header ++ flat_map (to_le_bytes w32) (
    0x50000003 ∷ 0x208 ∷ 9 ∷ 0xd ∷ 0xd ∷ 2 ∷ 0x20004 ∷ 0xd ∷ 0xe31610fa
    ∷ 0x780000 ∷ 0x20000 ∷ 0x60000 ∷ 0x30001 ∷ [])

pool_passes : pool_refusal pool_file ≡ None
unfolding pool_file units_of words_of pool_refusal pool_checks head_checks header_checks info_checks
    version_checks size_checks lending_checks
pool_passes = refl

is_pool_file : IsPoolFile pool_file
is_pool_file = pool_is pool_file pool_passes

file_passes : refusal_with (Some (pool_of pool_file)) file ≡ None
unfolding pool_file file units_of words_of refusal_with head_checks header_checks info_checks
    version_checks size_checks lending_checks pool_given_checks pool_of
file_passes = refl

is_file : IsFileWith (Some (pool_of pool_file)) file
is_file = file_is (Some (pool_of pool_file)) file file_passes

file_alone : refusal_with None file ≡ Some (unsupported (codes "file uses a pool bundle"))
unfolding file units_of words_of refusal_with head_checks header_checks info_checks version_checks
    size_checks lending_checks pool_given_checks
file_alone = refl

limits : (limit_in file ≡ 2) × (short_limit_in file ≡ 2)
unfolding file units_of words_of
limits = (refl, refl)

no_own_keys : own_keys file ≡ []
unfolding file units_of words_of
no_own_keys = refl

checksum : checksum_of (pool_of pool_file) ≡ 0xe31610fa
unfolding pool_file units_of words_of pool_of checksum_of bit_step
checksum = refl

-- bytes of ASCII alone are a text
each_below : (bs : List ℕ) → list_all (λ b. nat_lt b 128) bs ≡ true → IsAscii bs
each_below [] e i = omega arith
each_below (b ∷ bs) e zero = ltb-true b 128 (and_parts _ _ e).0
each_below (b ∷ bs) e (suc i) = each_below bs (and_parts _ _ e).1 i

ascii_text : (bs : List ℕ) → list_all (λ b. nat_lt b 128) bs ≡ true → is_utf8 bs ≡ true
ascii_text bs e = is_utf8-from_IsUtf8 bs (IsUtf8-from_ascii bs (each_below bs e))

-- both keys and the string with index 1 stand in the pool, the one with index 3 in the file
file_tree : Tree
file_tree =
    table (entry (codes "alpha") (string (codes "one two three"))
    (entry (codes "beta") (string (codes "x")) no_entries))

file_denotes : DenotesWith (Some (pool_of pool_file)) file file_tree 3
unfolding pool_file file file_tree units_of words_of pool_of parts_with content_at key_at text_at
    string_at key_place_by text_place_by index_by utf16_chars lib.Utf8.encode
file_denotes =
    let alpha : key_in (parts_with (Some (pool_of pool_file)) file) 0 ≡ Some (codes "alpha") =
    rw (ascii_text (codes "alpha") refl) refl in
    let beta : key_in (parts_with (Some (pool_of pool_file)) file) 6 ≡ Some (codes "beta") =
    rw (ascii_text (codes "beta") refl) refl in
    record {
      head = is_file;
      root =
          den_entries refl (entries_more alpha (den_unit refl)
          (entries_more beta (den_unit refl) entries_none));
    }

-- behind the index a word fills the 16-bit block, which is empty; the path is its count, 12, and
-- its units, and stands at word 10, which the alias's word 0x3000000a says
alias_file : List ℕ
alias_file = header ++ flat_map (to_le_bytes w32) (
    0x20000012 ∷ 8 ∷ 9 ∷ 0x16 ∷ 0x16 ∷ 2 ∷ 4 ∷ 0xa ∷ 0xe31610fa ∷ 0xaaaa0000
    ∷ 0xc ∷ 0x4c002f ∷ 0x43004f ∷ 0x4c0041 ∷ 0x2f0045 ∷ 0x650062 ∷ 0x610074 ∷ 0xaaaa0000
    ∷ 2 ∷ 0xaaaa0006 ∷ 0x3000000a ∷ 0x70000005 ∷ [])

alias_tree : Tree
alias_tree =
    table (entry (codes "alpha") (alias (codes "/LOCALE/beta"))
    (entry (codes "beta") (integer 5) no_entries))

alias_passes : refusal_with (Some (pool_of pool_file)) alias_file ≡ None
unfolding pool_file alias_file units_of words_of refusal_with head_checks header_checks info_checks
    version_checks size_checks lending_checks pool_given_checks pool_of
alias_passes = refl

alias_denoted : DenotesWith (Some (pool_of pool_file)) alias_file alias_tree 3
unfolding pool_file alias_file alias_tree units_of words_of pool_of parts_with content_at key_at
    key_place_by utf16_chars lib.Utf8.encode
alias_denoted =
    let alpha : key_in (parts_with (Some (pool_of pool_file)) alias_file) 0
    ≡ Some (codes "alpha") = rw (ascii_text (codes "alpha") refl) refl in
    let beta : key_in (parts_with (Some (pool_of pool_file)) alias_file) 6
    ≡ Some (codes "beta") = rw (ascii_text (codes "beta") refl) refl in
    record {
      head = file_is (Some (pool_of pool_file)) alias_file alias_passes;
      root =
          den_entries refl (entries_more alpha (den_word (den_leaf refl))
          (entries_more beta (den_word (den_leaf refl)) entries_none));
    }

-- The definitions at worked examples: what they accept, and what they refuse.
use Rattle.std.proofs.Common.{◌≡◌, ℕ, zero, suc, List, [], ◌∷◌, ◌++◌, Some, None, true, refl, sym}
use Rattle.std.proofs.Common.{inl, inr, length, arith, map}
use Rattle.std.specs.Prelude.{codes, Contains}
use Rattle.std.specs.Str.{chars}
use Rattle.std.proofs.Math.Utf8.{encode}
use Rattle.resb_tree.specs.Tree.{Tree, string, alias, array, table, binary, integer, no_trees}
use Rattle.resb_tree.specs.Tree.{more_trees, no_entries, entry}
use Rattle.resb_format.specs.Units.{units, size}
use Rattle.resb_format.specs.Bytes.{units_of, words_of}
use Rattle.resb_layout.specs.WritingFault.{unexpected, limit, out_of_memory, message_of}
use Rattle.resb_pool.specs.Records.{IsRecord, IsHeldBy}
use Rattle.resb_pool.specs.declared.packing.Packing.TheVariants.{Plain, Compact}
use Rattle.resb_layout.specs.CompactKeys.{container, kept, end_position, key_block_by}
use Rattle.resb_layout.specs.CompactKeys.{key_position_by}
use Rattle.resb_layout.specs.Laid.{LaysBy, lays_integer, lays_members, each_none, each_more}
use Rattle.resb_layout.specs.Laid.{long_array, lays_path, word_of_string}
use Rattle.resb_layout.specs.KeyBlock.{key_bytes, padded}
use Rattle.resb_layout.specs.PlainSize.{plain_size}
use Rattle.resb_layout.specs.TreeFaults.{tree_fault}
use Rattle.resb_layout.specs.WrittenHead.{written_header, IndexOf}
use Rattle.resb_write.specs.Inner.Files.{file_of}

-- The key block of the table with the keys a and c, for the list a, a, c: the last place of a
-- counts.

two_keys : Tree
two_keys = table (entry (97 ∷ []) (string []) (entry (99 ∷ []) (string []) no_entries))

keys_written_twice : key_block_by Plain two_keys
    ((97 ∷ []) ∷ (97 ∷ []) ∷ (99 ∷ []) ∷ (100 ∷ []) ∷ [])
    ≡ 97 ∷ 0 ∷ 97 ∷ 0 ∷ 99 ∷ 0 ∷ 0xaa ∷ 0xaa ∷ []
unfolding two_keys
keys_written_twice = refl

last_place_counts : key_position_by Plain two_keys ((97 ∷ []) ∷ (97 ∷ []) ∷ (99 ∷ []) ∷ [])
    (97 ∷ []) ≡ Some 34
unfolding two_keys
last_place_counts = refl

unused_key : key_position_by Plain two_keys ((97 ∷ []) ∷ (100 ∷ []) ∷ []) (100 ∷ []) ≡ None
unfolding two_keys
unused_key = refl

-- The compact key block of keys xab, yab, ab and b: ab lies in yab, the greater of the two that end
-- with it, and so does b; a key of another end stands by itself, and a key that isn't listed stands
-- nowhere, also where it would lie inside another.

ends_of_keys : List (List ℕ)
ends_of_keys = codes "b" ∷ codes "yab" ∷ codes "ab" ∷ codes "xab" ∷ []

in_the_greatest : container ends_of_keys (codes "ab") ≡ codes "yab"
unfolding ends_of_keys
in_the_greatest = refl

longest_are_kept : kept ends_of_keys ≡ codes "yab" ∷ codes "xab" ∷ []
unfolding ends_of_keys
longest_are_kept = refl

at_the_end : map (end_position ends_of_keys)
    (codes "yab" ∷ codes "ab" ∷ codes "b" ∷ codes "xab" ∷ [])
    ≡ Some 32 ∷ Some 33 ∷ Some 34 ∷ Some 36 ∷ []
unfolding ends_of_keys
at_the_end = refl

only_listed : end_position ends_of_keys (codes "") ≡ None
unfolding ends_of_keys
only_listed = refl

-- An empty string has the word 0 in a compact file, and else that of a string at unit 0.

empty_words : (word_of_string Compact 0 ≡ 0) × (word_of_string Plain 0 ≡ 0x6000_0000)
    × (word_of_string Compact 5 ≡ 0x6000_0005)
empty_words = (refl, refl, refl)

-- Faults: a used key that isn't listed, also where it is read inside another; then U+0000 in a key.

unlisted : tree_fault two_keys ((97 ∷ []) ∷ []) ≡ Some
    (unexpected (codes "key not present in position map"))
unfolding two_keys
unlisted = refl

inside_another : tree_fault (table (entry (97 ∷ 98 ∷ []) (integer 1)
    (entry (98 ∷ []) (integer 2) no_entries))) ((97 ∷ 98 ∷ []) ∷ []) ≡ Some
    (unexpected (codes "key not present in position map"))
inside_another = refl

key_with_nul : tree_fault (table (entry (0 ∷ []) (integer 1) no_entries)) ((0 ∷ []) ∷ []) ≡ Some
    (unexpected (codes "key contains U+0000"))
key_with_nul = refl

without_fault : tree_fault (table (entry (97 ∷ []) (integer 1) no_entries)) ((97 ∷ []) ∷ []) ≡ None
without_fault = refl

-- a key of two bytes, an array of two children, an integer and three bytes
plain_size_of_three : plain_size
    (array (more_trees (integer 1) (more_trees (binary (1 ∷ 2 ∷ 3 ∷ [])) no_trees)))
    ((97 ∷ []) ∷ []) ≡ 60
plain_size_of_three = refl

-- An array of one integer, from byte 36 of the body.
array_laid : LaysBy None
    (record { position = λ k. None; offset = λ s. None; base = 36; packing = Plain })
    (record { units = 0 ∷ []; tail = [] }) (array (more_trees (integer 5) no_trees))
    (record { units = 0 ∷ []; tail = 1 ∷ 0 ∷ 0 ∷ 0 ∷ 5 ∷ 0 ∷ 0 ∷ 0x70 ∷ [] }) 0x8000_0009
array_laid = lays_members (each_more (lays_integer (omega arith)) each_none) (omega arith)
    (long_array 9 refl refl (omega arith) (omega arith))

-- An alias of the path ab, from byte 36 of the body: two units, a unit 0 and padding.
alias_laid : LaysBy None
    (record { position = λ k. None; offset = λ s. None; base = 36; packing = Plain })
    (record { units = 0 ∷ []; tail = [] }) (alias (97 ∷ 98 ∷ []))
    (record {
      units = 0 ∷ [];
      tail = 2 ∷ 0 ∷ 0 ∷ 0 ∷ 97 ∷ 0 ∷ 98 ∷ 0 ∷ 0 ∷ 0 ∷ 0xaa ∷ 0xaa ∷ [];
    }) 0x3000_0009
unfolding chars encode
alias_laid =
    let two : length (units (97 ∷ 98 ∷ [])) ≡ 2 = refl in
    lays_path {path = 97 ∷ 98 ∷ []} 9 (omega arith) (97 ∷ 98 ∷ [], (refl, refl))
    (omega (arith, two)) refl (omega arith)

-- The file of one entry, as ICU's rules ask for it: `b{k{v}}`.
one_file : file_of 0x5000_0003 1 true (padded (key_bytes ((107 ∷ []) ∷ [])))
    (0 ∷ 118 ∷ 0 ∷ 1 ∷ 32 ∷ 1 ∷ []) []
    ≡ written_header ++ (3 ∷ 0 ∷ 0 ∷ 80 ∷ 7 ∷ 0 ∷ 0 ∷ 0 ∷ 9 ∷ 0 ∷ 0 ∷ 0 ∷ 12 ∷ 0 ∷ 0 ∷ 0 ∷ 12 ∷ 0 ∷
    0 ∷ 0 ∷ 1 ∷ 0 ∷ 0 ∷ 0 ∷ 0 ∷ 0 ∷ 0 ∷ 0 ∷ 12 ∷ 0 ∷ 0 ∷ 0
    ∷ 107 ∷ 0 ∷ 0xaa ∷ 0xaa ∷ 0 ∷ 0 ∷ 118 ∷ 0 ∷ 0 ∷ 0 ∷ 1 ∷ 0 ∷ 32 ∷ 0 ∷ 1 ∷ 0 ∷ [])
one_file = refl

empty_bundle : List ℕ
empty_bundle = written_header ++ (
    0 ∷ 0 ∷ 0 ∷ 0x20 ∷ 7 ∷ 0 ∷ 0 ∷ 0 ∷ 8 ∷ 0 ∷ 0 ∷ 0 ∷ 9 ∷ 0 ∷ 0 ∷ 0 ∷ 9 ∷ 0 ∷ 0 ∷ 0 ∷ 0 ∷ 0 ∷ 0 ∷ 0
    ∷ 0 ∷ 0 ∷ 0 ∷ 0 ∷ 9 ∷ 0 ∷ 0 ∷ 0
    ∷ 0 ∷ 0 ∷ 0xaa ∷ 0xaa ∷ [])

empty_index : IndexOf empty_bundle (table no_entries) true
unfolding empty_bundle units_of words_of
empty_index = record {
  header = refl;
  fields = refl;
  resources = refl;
  bundle = refl;
  largest =
      refl;
  no_fallback = refl;
}

-- What a fault prints.
prints_limit : message_of (limit (codes "file too large")) ≡ codes "Limit exceeded: file too large"
prints_limit = refl

prints_memory : message_of out_of_memory ≡ codes "Out of memory: while writing"
prints_memory = refl

-- "yz" lies at the end of "xyz", so beside it it has no record; alone it has one, of 3 units.
xyz : List ℕ
xyz = 120 ∷ 121 ∷ 122 ∷ []

yz : List ℕ
yz = 121 ∷ 122 ∷ []

size_of_yz : size yz ≡ 3
unfolding yz chars
size_of_yz = refl

held : IsHeldBy yz xyz
unfolding xyz yz chars
held = record {
  unmarked = refl;
  ends = record { front = 120 ∷ []; is = refl };
  proper =
      λ (e : 120 ∷ 121 ∷ 122 ∷ [] ≡ 121 ∷ 122 ∷ []). (cc);
}

no_record : IsRecord (xyz ∷ yz ∷ []) yz → ⊥
no_record r = elim r.alone [
  | inl marked ↦ (let no : ⊥ = cc (held.unmarked) in no)
  | inr only ↦ held.proper (only xyz (0, omega arith, refl) held.ends)
]

own_record : IsRecord (yz ∷ []) yz
unfolding yz
own_record = record {
  given = (0, omega arith, refl);
  nonempty = omega arith;
  alone = inr (λ t c e. only_one t c);
}
  where
    only_one : (t : List ℕ) → Contains ((121 ∷ 122 ∷ []) ∷ []) t → t ≡ 121 ∷ 122 ∷ []
    only_one t (zero, lt, is) = sym is
    only_one t (suc i, lt, is) = absurd (omega arith)

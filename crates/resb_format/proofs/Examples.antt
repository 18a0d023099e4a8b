-- The definitions at worked examples: what they accept, and what they refuse.
use Rattle.std.proofs.Common.{◌≡◌, ℕ, zero, suc, ◌+◌, ◌<◌, List, [], ◌∷◌, ◌++◌, Some, None}
use Rattle.std.proofs.Common.{true, refl, ◌∙◌, ap, subst, arith, ◌^◌}
use Rattle.std.specs.Str.{is_utf8, IsAscii}
use Rattle.std.proofs.lemmas.Str.{is_utf8-from_IsUtf8, IsUtf8-from_ascii}
use Rattle.std.specs.Char.Utf16.{utf16_chars}
use Rattle.resb_tree.specs.Tree.{Tree, string, alias, array, table, integer, trees_of}
use Rattle.resb_tree.specs.Tree.{no_entries, entry}
use Rattle.resb_format.specs.Bytes.{units_of, words_of}
use Rattle.resb_format.specs.Units.{length_marker}
use Rattle.resb_format.specs.Strings.{string_at, text_at, key_at}
use Rattle.resb_format.specs.Parts.{Parts, no_pool}
use Rattle.resb_format.specs.Lookups.{key_place_by, text_place_by, index_by, key_in}
use Rattle.resb_format.specs.Lookups.{wide_position}
use Rattle.resb_format.specs.Content.{Member, word, unit, leaf, list, entry_list, content_at}
use Rattle.resb_format.specs.Denotes.{Den, den_leaf, den_list, den_entries, den_word, den_unit}
use Rattle.resb_format.specs.Denotes.{DenEach, each_none, each_more, entries_none, entries_more}
use Rattle.resb_format.proofs.Denoting.{unique}

-- Strings at a unit: markers of one, two and three units, also on short strings, and every string's
-- end inside the block.

marked_by_one : string_at (0xdc02 ∷ 97 ∷ 98 ∷ []) 0 ≡ Some (97 ∷ 98 ∷ [])
unfolding string_at
marked_by_one = refl

marked_by_two : string_at (0xdfef ∷ 1 ∷ 97 ∷ []) 0 ≡ Some (97 ∷ [])
unfolding string_at
marked_by_two = refl

marked_by_three : string_at (0xdfff ∷ 0 ∷ 1 ∷ 97 ∷ []) 0 ≡ Some (97 ∷ [])
unfolding string_at
marked_by_three = refl

marked_empty : string_at (0xdc00 ∷ []) 0 ≡ Some []
unfolding string_at
marked_empty = refl

marked_too_long : string_at (0xdc03 ∷ 97 ∷ 98 ∷ []) 0 ≡ None
unfolding string_at
marked_too_long = refl

marker_cut : string_at (0xdfff ∷ 0 ∷ []) 0 ≡ None
unfolding string_at
marker_cut = refl

unmarked : string_at (7 ∷ 97 ∷ 98 ∷ 0 ∷ []) 1 ≡ Some (97 ∷ 98 ∷ [])
unfolding string_at
unmarked = refl

unmarked_empty : string_at (0 ∷ []) 0 ≡ Some []
unfolding string_at
unmarked_empty = refl

unterminated : string_at (97 ∷ []) 0 ≡ None
unfolding string_at
unterminated = refl

past_the_block : string_at (97 ∷ 0 ∷ []) 2 ≡ None
unfolding string_at
past_the_block = refl

-- 40 units and 41
forty : List ℕ
forty =
    97 ∷ 97 ∷ 97 ∷ 97 ∷ 97 ∷ 97 ∷ 97 ∷ 97 ∷ 97 ∷ 97 ∷
    97 ∷ 97 ∷ 97 ∷ 97 ∷ 97 ∷ 97 ∷ 97 ∷ 97 ∷ 97 ∷ 97 ∷
    97 ∷ 97 ∷ 97 ∷ 97 ∷ 97 ∷ 97 ∷ 97 ∷ 97 ∷ 97 ∷ 97 ∷
    97 ∷ 97 ∷ 97 ∷ 97 ∷ 97 ∷ 97 ∷ 97 ∷ 97 ∷ 97 ∷ 97 ∷ []

forty_units : string_at (forty ++ 0 ∷ []) 0 ≡ Some forty
unfolding string_at forty
forty_units = refl

forty_one_units : string_at (97 ∷ forty ++ 0 ∷ []) 0 ≡ None
unfolding string_at forty
forty_one_units = refl

-- U+1F600, and half of it
pair_of_surrogates : text_at (0xd83d ∷ 0xde00 ∷ 0 ∷ []) 0 ≡ Some (0xf0 ∷ 0x9f ∷ 0x98 ∷ 0x80 ∷ [])
unfolding text_at string_at utf16_chars lib.Utf8.encode
pair_of_surrogates = refl

lone_surrogate : text_at (0xd83d ∷ 0 ∷ []) 0 ≡ None
unfolding text_at string_at utf16_chars
lone_surrogate = refl

-- Markers that are written, and what needs none.

marker_of_one : length_marker 1006 ≡ 0xdfee ∷ []
marker_of_one = refl

marker_of_two : length_marker 1007 ≡ 0xdfef ∷ 0x3ef ∷ []
marker_of_two = refl

greatest_of_two : length_marker 1048575 ≡ 0xdffe ∷ 0xffff ∷ []
greatest_of_two = refl

marker_of_three : length_marker 1048576 ≡ 0xdfff ∷ 0x10 ∷ 0 ∷ []
marker_of_three = refl

-- Keys.

one_ascii : (b : ℕ) → b < 128 → IsAscii (b ∷ [])
one_ascii b h zero = h
one_ascii b h (suc i) = omega arith

-- a byte of ASCII alone is a text
pub ascii_key : (b : ℕ) → b < 128 → is_utf8 (b ∷ []) ≡ true
ascii_key b h = is_utf8-from_IsUtf8 (b ∷ []) (IsUtf8-from_ascii (b ∷ []) (one_ascii b h))

key_found : key_at (97 ∷ 98 ∷ 0 ∷ 99 ∷ []) 1 ≡ Some (98 ∷ [])
unfolding key_at
key_found = rw (ascii_key 98 (omega arith)) refl

key_unterminated : key_at (97 ∷ 98 ∷ 0 ∷ 99 ∷ []) 3 ≡ None
unfolding key_at
key_unterminated = refl

key_past : key_at (97 ∷ 0 ∷ []) 9 ≡ None
unfolding key_at
key_past = refl

-- Words in given parts. The body's words: a descriptor; at word 1 two members; at word 4 a table of
-- one entry.

small : Parts
small = record {
  body =
      0 ∷ 0 ∷ 0 ∷ 0x80 ∷ 2 ∷ 0 ∷ 0 ∷ 0 ∷ 5 ∷ 0 ∷ 0 ∷ 0x70 ∷ 1 ∷ 0 ∷ 0 ∷ 0x60 ∷
      1 ∷ 0 ∷ 0 ∷ 0 ∷ 7 ∷ 0 ∷ 0 ∷ 0x70 ∷ [];
  keys = 97 ∷ 0 ∷ [];
  block = 0 ∷ 120 ∷ 0 ∷ 1 ∷ 0 ∷ 1 ∷ [];
  lent = None;
}

an_integer : content_at small 0x7fff_ffff ≡ Some (leaf (integer 0xfff_ffff))
unfolding content_at small
an_integer = refl

an_array : content_at small 0x8000_0001 ≡ Some (list (word 0x7000_0005 ∷ word 0x6000_0001 ∷ []))
unfolding content_at small words_of units_of
an_array = refl

an_array_cut : content_at small 0x8000_0005 ≡ None
unfolding content_at small words_of units_of
an_array_cut = refl

a_table : content_at small 0x2000_0004 ≡ Some (entry_list ((0, word 0x7000_0007) ∷ []))
unfolding content_at small words_of units_of
a_table = refl

a_short_table : content_at small 0x5000_0003 ≡ Some (entry_list ((0, unit 1) ∷ []))
unfolding content_at small words_of units_of
a_short_table = refl

an_old_string : content_at small 0x0000_0001 ≡ None
unfolding content_at small words_of units_of
an_old_string = refl

-- Beside a pool, its own or none, words of the two older types lead to texts in the body: at word 1
-- three units, "/ab".
aliased : Parts
aliased = record {
  body =
      1 ∷ 0 ∷ 0 ∷ 0x30 ∷ 3 ∷ 0 ∷ 0 ∷ 0 ∷ 47 ∷ 0 ∷ 97 ∷ 0 ∷ 98 ∷ 0 ∷ 0 ∷ 0 ∷ [];
  keys = [];
  block = [];
  lent = Some no_pool;
}

an_alias : content_at aliased 0x3000_0001 ≡ Some (leaf (alias (47 ∷ 97 ∷ 98 ∷ [])))
unfolding content_at aliased words_of units_of utf16_chars lib.Utf8.encode
an_alias = refl

an_older_string : content_at aliased 0x0000_0001 ≡ Some (leaf (string (47 ∷ 97 ∷ 98 ∷ [])))
unfolding content_at aliased words_of units_of utf16_chars lib.Utf8.encode
an_older_string = refl

an_empty_alias : content_at aliased 0x3000_0000 ≡ Some (leaf (alias []))
unfolding content_at aliased
an_empty_alias = refl

a_cut_alias : content_at aliased 0x3000_0002 ≡ None
unfolding content_at aliased words_of units_of
a_cut_alias = refl

an_unknown_type : content_at small 0xa000_0000 ≡ None
unfolding content_at small words_of units_of
an_unknown_type = refl

-- The array holds the integer 5 and the string "x": three resources.
array_denotes : Den small 0x8000_0001 (array (trees_of (integer 5 ∷ string (120 ∷ []) ∷ []))) 3
unfolding content_at small words_of units_of key_place_by text_place_by index_by text_at string_at
    utf16_chars lib.Utf8.encode
array_denotes =
    den_list refl
    (each_more (den_word (den_leaf refl)) (each_more (den_word (den_leaf refl)) each_none))

table_denotes : Den small 0x5000_0003 (table (entry (97 ∷ []) (string (120 ∷ [])) no_entries)) 2
unfolding content_at small words_of units_of key_place_by text_place_by index_by text_at string_at
    utf16_chars key_at lib.Utf8.encode
table_denotes =
    let key : key_at small.keys 0 ≡ Some (97 ∷ []) = rw (ascii_key 97 (omega arith)) refl in
    den_entries refl (entries_more key (den_unit refl) entries_none)

-- Beside a pool with the key "b" at byte 0, and own keys of 2 bytes, with "a" at byte 0: position 2
-- is the pool's where it has 16 bits, and nothing where it has 32, and position 2^31 is the pool's.
lent_key : Parts
lent_key = record {
  body = [];
  keys = 97 ∷ 0 ∷ [];
  block = [];
  lent = Some (record { keys = 98 ∷ 0 ∷ []; block = []; limit = 0; short_limit = 0 });
}

a_lent_key : key_in lent_key 2 ≡ Some (98 ∷ [])
unfolding key_place_by key_at lent_key
a_lent_key = rw (ascii_key 98 (omega arith)) refl

a_wide_own_key : key_in lent_key (wide_position 0) ≡ Some (97 ∷ [])
unfolding key_place_by key_at lent_key
a_wide_own_key = rw (ascii_key 97 (omega arith)) refl

a_wide_lent_key : key_in lent_key (wide_position (2 ^ 31)) ≡ Some (98 ∷ [])
unfolding key_place_by key_at lent_key
a_wide_lent_key = rw (ascii_key 98 (omega arith)) refl

a_wide_gap : (key_in lent_key (wide_position 2) ≡ None) × (key_in lent_key (wide_position 9) ≡ None)
unfolding key_place_by key_at lent_key
a_wide_gap = (refl, refl)

-- An array that holds itself denotes nothing.
looped : Parts
looped = record {
  body = 1 ∷ 0 ∷ 0 ∷ 0x80 ∷ 1 ∷ 0 ∷ 0 ∷ 0 ∷ 1 ∷ 0 ∷ 0 ∷ 0x80 ∷ [];
  keys = [];
  block = [];
  lent = None;
}

loop_content : content_at looped 0x8000_0001 ≡ Some (list (word 0x8000_0001 ∷ []))
unfolding content_at looped words_of units_of
loop_content = refl

-- its one member would have one resource less
loop_member : {ms : List Member} {ts : List Tree} {k : ℕ} → DenEach looped ms ts k
    → ms ≡ word 0x8000_0001 ∷ [] → (t : Tree) × Den looped 0x8000_0001 t k
loop_member each_none e = absurd (cc)
loop_member (each_more (den_unit f) ds) e = absurd (cc)
loop_member (each_more (den_word d) (each_more x ds)) e = absurd (cc)
loop_member (each_more (den_word {w = w} {n = n} {t = t} d) each_none) e =
    let same : w ≡ 0x8000_0001 = cc in
    let count : n ≡ n + 0 = omega arith in
    (t, subst (λ k. Den looped 0x8000_0001 t k) count (subst (λ v. Den looped v t n) same d))

loop_step : {w n : ℕ} {t : Tree} → Den looped w t n → w ≡ 0x8000_0001
    → (k : ℕ) × ((u : Tree) × Den looped 0x8000_0001 u k) × (n ≡ 1 + k)
loop_step (den_leaf {w = w} f) e =
    let g : content_at looped w ≡ Some (list (word 0x8000_0001 ∷ [])) =
    ap (content_at looped) e ∙ loop_content in absurd (cc)
loop_step (den_entries {w = w} f ds) e =
    let g : content_at looped w ≡ Some (list (word 0x8000_0001 ∷ [])) =
    ap (content_at looped) e ∙ loop_content in absurd (cc)
loop_step (den_list {w = w} {n = n} {ms = ms} f ds) e =
    let g : content_at looped w ≡ Some (list (word 0x8000_0001 ∷ [])) =
    ap (content_at looped) e ∙ loop_content in
    let one : ms ≡ word 0x8000_0001 ∷ [] = cc in
    (n, loop_member ds one, refl)

loop_denotes_nothing : (t : Tree) (n : ℕ) → Den looped 0x8000_0001 t n → ⊥
loop_denotes_nothing t n d =
    let h = loop_step d refl in
    let less : n ≡ 1 + h.0 = h.2 in
    let same : n ≡ h.0 = (unique looped d h.1.1).1 in
    absurd (omega arith)

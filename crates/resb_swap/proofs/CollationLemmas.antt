-- What is known of a collation's data that is whole.
use Rattle.std.proofs.Common.{◌≡◌, ℕ, ◌+◌, ◌-◌, ◌*◌, ◌/◌, ◌%◌, ◌<◌, ◌≤◌, true}
use Rattle.std.proofs.Common.{◌==◌, nat_le, nat_lt, cond, refl, sym, ap, ◌∙◌, arith, subst}
use Rattle.std.proofs.lemmas.Bool.Decides.{nat_tests}
use Rattle.resb_swap.specs.Numbers.{Numbered, byte_in, word_in, word_count}
use Rattle.resb_swap.specs.Collation.{is_headed, has_indexes, has_parts, data_header, index_count}
use Rattle.resb_swap.specs.Collation.{index_from, offset_in, part_at, is_whole, is_trie_part}
use Rattle.resb_swap.specs.Collation.{is_trie, trie_units, value_words}

-- a binary with a known header lies inside
pub record Headed (f : Numbered) (p : ℕ) : Type 0 where
  pub long : 32 ≤ word_in f p
  pub inside : p + 1 + (word_in f p + 3) / 4 ≤ word_count f
  pub order : byte_in f (4 * p + 12) ≡ cond f.big 1 0
  pub ascii : byte_in f (4 * p + 13) ≡ 0
  pub low : 4 ≤ byte_in f (4 * p + 20)
  pub high : byte_in f (4 * p + 20) ≤ 5

pub headed_from : (f : Numbered) (p : ℕ) → is_headed f p ≡ true → Headed f p
unfolding is_headed
headed_from f p h = record {
  long = grind (arith, nat_tests);
  inside = grind (arith, nat_tests);
  order = grind (arith, nat_tests);
  ascii = grind (arith, nat_tests);
  low = grind (arith, nat_tests);
  high = grind (arith, nat_tests);
}

pub headed_to : (f : Numbered) (p : ℕ) → Headed f p → is_headed f p ≡ true
unfolding is_headed
headed_to f p h =
    let a = h.long in let b = h.inside in let c = h.order in let d = h.ascii in
    let l = h.low in let u = h.high in
    let ea : nat_le 32 (word_in f p) ≡ true = grind (arith, nat_tests) in
    let eb : nat_le (p + 1 + (word_in f p + 3) / 4) (word_count f) ≡ true = grind (arith, nat_tests)
    in
    let ec : (byte_in f (4 * p + 12) == cond f.big 1 0) ≡ true = grind (arith, nat_tests) in
    let ed : (byte_in f (4 * p + 13) == 0) ≡ true = grind (arith, nat_tests) in
    let el : nat_le 4 (byte_in f (4 * p + 20)) ≡ true = grind (arith, nat_tests) in
    let eu : nat_le (byte_in f (4 * p + 20)) 5 ≡ true = grind (arith, nat_tests) in
    rw (ea, eb, ec, ed, el, eu) refl

-- its indexes stand behind its header
pub record Indexed (f : Numbered) (p : ℕ) : Type 0 where
  pub header : 24 ≤ data_header f (p + 1)
  pub words : data_header f (p + 1) % 4 ≡ 0
  pub two : 2 ≤ index_count f (p + 1)
  pub inside : data_header f (p + 1) + 4 * index_count f (p + 1) ≤ word_in f p

pub indexed_from : (f : Numbered) (p : ℕ) → has_indexes f p ≡ true → Indexed f p
unfolding has_indexes
indexed_from f p h = record {
  header = grind (arith, nat_tests);
  words = grind (arith, nat_tests);
  two = grind (arith, nat_tests);
  inside = grind (arith, nat_tests);
}

pub data_inside : (f : Numbered) (p : ℕ) → is_headed f p ≡ true → p + 1 < word_count f
data_inside f p h =
    let e = headed_from f p h in let l = e.long in let i = e.inside in omega (arith, l, i)

-- the first index lies inside
pub count_inside : (f : Numbered) (p h : ℕ) → is_headed f p ≡ true → h + 8 ≤ word_in f p
    → h % 4 ≡ 0 → p + 1 + h / 4 < word_count f
count_inside f p h e le whole =
    let i = (headed_from f p e).inside in omega (arith, i, le, whole)

-- each index lies inside
pub index_inside : (f : Numbered) (p i : ℕ) → is_headed f p ≡ true → has_indexes f p ≡ true
    → i < index_count f (p + 1) → index_from f (p + 1) + i < word_count f
index_inside f p i h x lt =
    let a = (headed_from f p h).inside in
    let e = indexed_from f p x in
    let w = e.words in let b = e.inside in omega (arith, a, w, b, lt)

-- these, by the size of the header
pub told_count : (f : Numbered) (p h : ℕ) → h ≡ data_header f (p + 1) → is_headed f p ≡ true
    → has_indexes f p ≡ true → p + 1 + h / 4 < word_count f
told_count f p h e a b =
    let two = (indexed_from f p b).two in
    let i = index_inside f p 0 a b (omega (arith, two)) in omega (arith, i, e)

pub told_index : (f : Numbered) (p i h : ℕ) → h ≡ data_header f (p + 1) → is_headed f p ≡ true
    → has_indexes f p ≡ true → i < index_count f (p + 1) → p + 1 + h / 4 + i < word_count f
told_index f p i h e a b lt = rw e (index_inside f p i a b lt)

-- parts that stand one behind the other
pub record Parted (f : Numbered) (p : ℕ) : Type 0 where
  pub behind : 4 * index_count f (p + 1) ≤ offset_in f (p + 1) 5
  pub word_5 : offset_in f (p + 1) 5 % 4 ≡ 0
  pub to_6 : offset_in f (p + 1) 5 ≤ offset_in f (p + 1) 6
  pub word_6 : (offset_in f (p + 1) 6 - offset_in f (p + 1) 5) % 4 ≡ 0
  pub to_7 : offset_in f (p + 1) 6 ≤ offset_in f (p + 1) 7
  pub word_7 : (offset_in f (p + 1) 7 - offset_in f (p + 1) 6) % 4 ≡ 0
  pub to_8 : offset_in f (p + 1) 7 ≤ offset_in f (p + 1) 8
  pub word_8 : (offset_in f (p + 1) 8 - offset_in f (p + 1) 7) % 4 ≡ 0
  pub to_9 : offset_in f (p + 1) 8 ≡ offset_in f (p + 1) 9
  pub to_10 : offset_in f (p + 1) 9 ≤ offset_in f (p + 1) 10
  pub word_10 : (offset_in f (p + 1) 10 - offset_in f (p + 1) 9) % 8 ≡ 0
  pub to_11 : offset_in f (p + 1) 10 ≡ offset_in f (p + 1) 11
  pub to_12 : offset_in f (p + 1) 11 ≤ offset_in f (p + 1) 12
  pub to_13 : offset_in f (p + 1) 12 ≤ offset_in f (p + 1) 13
  pub to_14 : offset_in f (p + 1) 13 ≤ offset_in f (p + 1) 14
  pub to_15 : offset_in f (p + 1) 14 ≤ offset_in f (p + 1) 15
  pub to_16 : offset_in f (p + 1) 15 ≤ offset_in f (p + 1) 16
  pub to_17 : offset_in f (p + 1) 16 ≤ offset_in f (p + 1) 17
  pub to_18 : offset_in f (p + 1) 17 ≤ offset_in f (p + 1) 18
  pub to_19 : offset_in f (p + 1) 18 ≡ offset_in f (p + 1) 19
  pub inside : data_header f (p + 1) + offset_in f (p + 1) 19 ≤ word_in f p

pub parted_from : (f : Numbered) (p : ℕ) → has_parts f p ≡ true → Parted f p
unfolding has_parts
parted_from f p h = record {
  behind = grind (arith, nat_tests);
  word_5 = grind (arith, nat_tests);
  to_6 = grind (arith, nat_tests);
  word_6 = grind (arith, nat_tests);
  to_7 = grind (arith, nat_tests);
  word_7 = grind (arith, nat_tests);
  to_8 = grind (arith, nat_tests);
  word_8 = grind (arith, nat_tests);
  to_9 = grind (arith, nat_tests);
  to_10 = grind (arith, nat_tests);
  word_10 = grind (arith, nat_tests);
  to_11 = grind (arith, nat_tests);
  to_12 = grind (arith, nat_tests);
  to_13 = grind (arith, nat_tests);
  to_14 = grind (arith, nat_tests);
  to_15 = grind (arith, nat_tests);
  to_16 = grind (arith, nat_tests);
  to_17 = grind (arith, nat_tests);
  to_18 = grind (arith, nat_tests);
  to_19 = grind (arith, nat_tests);
  inside = grind (arith, nat_tests);
}

-- the part of the trie lies inside
pub trie_inside : (f : Numbered) (p : ℕ) → is_headed f p ≡ true → has_indexes f p ≡ true
    → has_parts f p ≡ true → p + 1 + part_at f (p + 1) 8 ≤ word_count f
trie_inside f p a b c =
    let i = (headed_from f p a).inside in
    let w = (indexed_from f p b).words in
    let s = parted_from f p c in
    let e9 = s.to_9 in let s10 = s.to_10 in let e11 = s.to_11 in let s12 = s.to_12 in
    let s13 = s.to_13 in let s14 = s.to_14 in let s15 = s.to_15 in let s16 = s.to_16 in
    let s17 = s.to_17 in let s18 = s.to_18 in let e19 = s.to_19 in let end = s.inside in
    let top : offset_in f (p + 1) 8 ≤ offset_in f (p + 1) 19 =
    omega (arith, e9, s10, e11, s12, s13, s14, s15, s16, s17, s18, e19) in
    omega (arith, i, w, top, end)

pub told_trie : (f : Numbered) (p from to : ℕ) → from ≡ part_at f (p + 1) 7
    → to ≡ part_at f (p + 1) 8 → from < to → is_headed f p ≡ true → has_indexes f p ≡ true
    → has_parts f p ≡ true → p + 1 + from + (to - from) ≤ word_count f
told_trie f p from to ef et lt a b c =
    let i = trie_inside f p a b c in omega (arith, i, ef, et, lt)

-- whole data, by what it is
pub record Whole (f : Numbered) (p : ℕ) : Type 0 where
  pub headed : is_headed f p ≡ true
  pub indexed : has_indexes f p ≡ true
  pub parted : has_parts f p ≡ true
  pub trie : is_trie_part f (p + 1) ≡ true

pub whole_from : (f : Numbered) (p : ℕ) → is_whole f p ≡ true → Whole f p
whole_from f p h = record {
  headed = grind (arith, nat_tests);
  indexed = grind (arith, nat_tests);
  parted = grind (arith, nat_tests);
  trie = grind (arith, nat_tests);
}

-- a trie, by what it is
pub record Trie (f : Numbered) (t n : ℕ) : Type 0 where
  pub long : 4 ≤ n
  pub even : trie_units f t % 2 ≡ 0
  pub ends : 4 + trie_units f t / 2 + value_words f t ≤ n

trie_by : (f : Numbered) (t n : ℕ) → is_trie f t n ≡ true → Trie f t n
unfolding is_trie
trie_by f t n h = record {
  long = grind (arith, nat_tests);
  even = grind (arith, nat_tests);
  ends = grind (arith, nat_tests);
}

pub trie_from : (f : Numbered) (q : ℕ) → is_trie_part f q ≡ true → part_at f q 7 < part_at f q 8
    → Trie f (q + part_at f q 7) (part_at f q 8 - part_at f q 7)
trie_from f q h lt =
    let e : nat_lt (part_at f q 7) (part_at f q 8) ≡ true = grind (arith, nat_tests) in
    trie_by f (q + part_at f q 7) (part_at f q 8 - part_at f q 7) (sym (ap (λ b. cond b (is_trie f
    (q + part_at f q 7) (part_at f q 8 - part_at f q 7)) true) e) ∙ h)

-- the trie's first four words lie inside
pub told_four : (f : Numbered) (p from : ℕ) → from ≡ part_at f (p + 1) 7
    → from < part_at f (p + 1) 8 → is_whole f p ≡ true → p + 1 + from + 4 ≤ word_count f
told_four f p from e lt h =
    let w = whole_from f p h in
    let less : part_at f (p + 1) 7 < part_at f (p + 1) 8 = subst (λ (n : ℕ). n < part_at f (p + 1)
    8) e lt in
    let l = (trie_from f (p + 1) w.trie less).long in
    let i = trie_inside f p w.headed w.indexed w.parted in omega (arith, i, l, e, less)

-- long data that is whole has the words that tell of what it is
pub begin_inside : (f : Numbered) (p : ℕ) → is_whole f p ≡ true → p + 4 < word_count f
begin_inside f p h =
    let w = headed_from f p (whole_from f p h).headed in
    let l = w.long in let i = w.inside in omega (arith, l, i)

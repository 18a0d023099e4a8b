-- The roles of the words of a collation's data whose parts stand one behind the other.
use Rattle.std.proofs.Common.{◌≡◌, ◌≢◌, ℕ, ◌+◌, ◌-◌, ◌/◌, ◌%◌, ◌<◌, ◌≤◌, Bool, true, false}
use Rattle.std.proofs.Common.{cond, nat_lt, ◌==◌, refl, sym, ap, ◌∙◌, arith, inl, inr, subst}
use Rattle.std.proofs.lemmas.Bool.{cases_lt, cases_eq}
use Rattle.std.proofs.lemmas.Bool.Decides.{nat_tests}
use Rattle.resb_swap.specs.Numbers.{Numbered, word_in}
use Rattle.resb_swap.specs.Collation.{data_header, index_count, offset_in, part_at, is_whole}
use Rattle.resb_swap.specs.Collation.{parts_in, outer_parts, parts_with, value_words}
use Rattle.resb_swap.specs.Collation.{has_wide_values, trie_head}
use Rattle.resb_swap.specs.Collation.{part_role, early_role, late_role, half_role}
use Rattle.resb_swap.specs.declared.parts.Parts.{Parts}
use Rattle.resb_swap.specs.declared.role.Role.{Role}
use Rattle.resb_swap.specs.declared.role.Role.TheVariants as role
use Rattle.resb_swap.proofs.OwningLemmas.{picks, early_any}
use Rattle.resb_swap.proofs.CollationLemmas.{whole_from, indexed_from, parted_from, trie_from}

-- parts that stand one behind the other, of which the weights are whole
pub record Ordered (s : Parts) : Type 0 where
  pub six : 6 ≤ s.header
  pub indexes : s.header < s.indexes
  pub gap : s.indexes ≤ s.gap
  pub codes : s.gap ≤ s.codes
  pub table : s.codes ≤ s.table
  pub signature : s.table ≤ s.signature
  pub units : s.signature ≤ s.units
  pub values : s.units ≤ s.values
  pub fill : s.values ≤ s.fill
  pub weights : s.fill ≤ s.weights
  pub even : (s.weights - s.fill) % 2 ≡ 0

-- the first words
pub at_3 : (s : Parts) → Ordered s → part_role s 3 ≡ role.Bytes
at_3 s o =
    let six = o.six in let e : nat_lt 3 s.header ≡ true = grind (arith, nat_tests) in
    ap (λ b. cond b role.Bytes (cond (nat_lt 3 s.indexes) role.Words (cond (nat_lt 3 s.gap)
    role.Bytes (cond (nat_lt 3 s.codes) role.Words (cond (nat_lt 3 s.table) role.Bytes (late_role s
    3)))))) e

pub at_4 : (s : Parts) → Ordered s → part_role s 4 ≡ role.Bytes
at_4 s o =
    let six = o.six in let e : nat_lt 4 s.header ≡ true = grind (arith, nat_tests) in
    ap (λ b. cond b role.Bytes (cond (nat_lt 4 s.indexes) role.Words (cond (nat_lt 4 s.gap)
    role.Bytes (cond (nat_lt 4 s.codes) role.Words (cond (nat_lt 4 s.table) role.Bytes (late_role s
    4)))))) e

-- behind the order of bytes
pub early : (s : Parts) (k : ℕ) → 3 ≤ k → part_role s k ≡ early_role s k
early s k le =
    let a : nat_lt k 1 ≡ false = grind (arith, nat_tests) in
    let b : nat_lt k 2 ≡ false = grind (arith, nat_tests) in
    let c : nat_lt k 3 ≡ false = grind (arith, nat_tests) in rw (a, b, c) refl

-- an index is a word
pub at_index : (s : Parts) (k : ℕ) → Ordered s → s.header ≤ k → k < s.indexes
    → part_role s k ≡ role.Words
at_index s k o le lt =
    let six = o.six in
    let a : nat_lt k s.header ≡ false = grind (arith, nat_tests) in
    let b : nat_lt k s.indexes ≡ true = grind (arith, nat_tests) in
    early s k (omega (arith, six, le)) ∙ rw (a, b) refl

-- behind the table of scripts
pub late : (s : Parts) (k : ℕ) → Ordered s → s.table ≤ k → part_role s k ≡ late_role s k
late s k o le =
    let six = o.six in let i = o.indexes in let g = o.gap in let c = o.codes in let t = o.table in
    let a : nat_lt k s.header ≡ false = grind (arith, nat_tests) in
    let b : nat_lt k s.indexes ≡ false = grind (arith, nat_tests) in
    let d : nat_lt k s.gap ≡ false = grind (arith, nat_tests) in
    let e : nat_lt k s.codes ≡ false = grind (arith, nat_tests) in
    let f : nat_lt k s.table ≡ false = grind (arith, nat_tests) in
    early s k (omega (arith, six, i, g, c, t, le)) ∙ rw (a, b, d, e, f) refl

pub at_signature : (s : Parts) (k : ℕ) → Ordered s → s.table ≤ k → k < s.signature
    → part_role s k ≡ role.Words
at_signature s k o le lt =
    let a : nat_lt k s.signature ≡ true = grind (arith, nat_tests) in
    late s k o le ∙ rw a refl

pub at_units : (s : Parts) (k : ℕ) → Ordered s → s.signature ≤ k → k < s.units
    → part_role s k ≡ role.Units
at_units s k o le lt =
    let t = o.signature in
    let a : nat_lt k s.signature ≡ false = grind (arith, nat_tests) in
    let b : nat_lt k s.units ≡ true = grind (arith, nat_tests) in
    late s k o (omega (arith, t, le)) ∙ rw (a, b) refl

-- a word of the weights is a half of a number
pub at_weights : (s : Parts) (k : ℕ) → Ordered s → s.fill ≤ k → k < s.weights
    → part_role s k ≡ half_role s k
at_weights s k o le lt =
    let t = o.signature in let u = o.units in let v = o.values in let w = o.fill in
    let a : nat_lt k s.signature ≡ false = grind (arith, nat_tests) in
    let b : nat_lt k s.units ≡ false = grind (arith, nat_tests) in
    let c : nat_lt k s.values ≡ false = grind (arith, nat_tests) in
    let d : nat_lt k s.fill ≡ false = grind (arith, nat_tests) in
    let e : nat_lt k s.weights ≡ true = grind (arith, nat_tests) in
    late s k o (omega (arith, t, u, v, w, le)) ∙ rw (a, b, c, d, e) refl

-- what holds of these roles holds of each word in front of the weights
before_late : (P : Role → Type 0) → P role.Units → P role.Bytes → P role.Words → (s : Parts)
    (k : ℕ) → k < s.fill → P (late_role s k)
before_late P units bytes words s k lt =
    let e : nat_lt k s.fill ≡ true = grind (arith, nat_tests) in
    let rest : Role = cond (nat_lt k s.weights) (half_role s k)
    (cond (nat_lt k s.words) role.Words (cond (nat_lt k s.texts) role.Units (cond (nat_lt k s.last)
    role.OneUnit role.Bytes))) in
    let Q : Bool → Type 0 = λ b. P (cond b role.Bytes rest) in
    picks P (nat_lt k s.signature) role.Words _ words
    (picks P (nat_lt k s.units) role.Units _ units
    (picks P (nat_lt k s.values) role.Words _ words (subst Q (sym e) bytes)))

-- and of each behind them
behind_late : (P : Role → Type 0) → P role.OneUnit → P role.Units → P role.Bytes → P role.Words
    → (s : Parts) (k : ℕ) → s.weights ≤ k → P (late_role s k)
behind_late P one units bytes words s k le =
    let e : nat_lt k s.weights ≡ false = grind (arith, nat_tests) in
    let rest : Role = cond (nat_lt k s.words) role.Words (cond (nat_lt k s.texts) role.Units
    (cond (nat_lt k s.last) role.OneUnit role.Bytes)) in
    let Q : Bool → Type 0 = λ b. P (cond b (half_role s k) rest) in
    picks P (nat_lt k s.signature) role.Words _ words
    (picks P (nat_lt k s.units) role.Units _ units
    (picks P (nat_lt k s.values) role.Words _ words
    (picks P (nat_lt k s.fill) role.Bytes _ bytes (subst Q (sym e)
    (picks P (nat_lt k s.words) role.Words _ words
    (picks P (nat_lt k s.texts) role.Units _ units
    (picks P (nat_lt k s.last) role.OneUnit role.Bytes one bytes)))))))

wrap : (P : Role → Type 0) → P role.OneUnit → P role.Units → P role.Order → P role.Bytes
    → P role.Words → (s : Parts) (k : ℕ) → P (late_role s k) → P (part_role s k)
wrap P one units order bytes words s k late =
    picks P (nat_lt k 1) role.OneUnit _ one
    (picks P (nat_lt k 2) role.Units _ units
    (picks P (nat_lt k 3) role.Order _ order
    (picks P (nat_lt k s.header) role.Bytes _ bytes
    (picks P (nat_lt k s.indexes) role.Words _ words
    (picks P (nat_lt k s.gap) role.Bytes _ bytes
    (picks P (nat_lt k s.codes) role.Words _ words
    (picks P (nat_lt k s.table) role.Bytes (late_role s k) bytes late)))))))

-- no half, no order
pub record IsAlone (r : Role) : Type 0 where
  pub no_first : r ≢ role.First
  pub no_second : r ≢ role.Second

alone_one : IsAlone role.OneUnit
alone_one = record { no_first = λ e. cc; no_second = λ e. cc }

alone_units : IsAlone role.Units
alone_units = record { no_first = λ e. cc; no_second = λ e. cc }

alone_order : IsAlone role.Order
alone_order = record { no_first = λ e. cc; no_second = λ e. cc }

pub alone_bytes : IsAlone role.Bytes
alone_bytes = record { no_first = λ e. cc; no_second = λ e. cc }

pub alone_words : IsAlone role.Words
alone_words = record { no_first = λ e. cc; no_second = λ e. cc }

-- a half of a number is a word of the weights
pub in_weights : (s : Parts) (k : ℕ) → (IsAlone (part_role s k) → ⊥)
    → (s.fill ≤ k) × (k < s.weights)
in_weights s k h = elim (cases_lt k s.fill) [
  | inl before ↦ absurd (h (wrap IsAlone alone_one alone_units alone_order alone_bytes alone_words s
      k (before_late IsAlone alone_units alone_bytes alone_words s k before)))
  | inr le ↦ elim (cases_lt k s.weights) [
    | inl lt ↦ (le, lt)
    | inr behind ↦ absurd (h (wrap IsAlone alone_one alone_units alone_order alone_bytes alone_words
        s k (behind_late IsAlone alone_one alone_units alone_bytes alone_words s k behind)))
  ]
]

pub half_first : (s : Parts) (k : ℕ) → (k - s.fill) % 2 ≡ 0 → half_role s k ≡ role.First
half_first s k e =
    let t : ((k - s.fill) % 2 == 0) ≡ true = grind (arith, nat_tests) in rw t refl

pub half_second : (s : Parts) (k : ℕ) → (k - s.fill) % 2 ≡ 1 → half_role s k ≡ role.Second
half_second s k e =
    let t : ((k - s.fill) % 2 == 0) ≡ false = grind (arith, nat_tests) in rw t refl

-- behind the first half stands the second
pub first_next : (s : Parts) (k : ℕ) → Ordered s → part_role s k ≡ role.First
    → (part_role s (k + 1) ≡ role.Second) × (k + 1 < s.weights)
first_next s k o e =
    let w = in_weights s k (λ a. a.no_first e) in
    let le = w.0 in let lt = w.1 in let even = o.even in
    elim (cases_eq ((k - s.fill) % 2) 0) [
      | inl zero_is ↦ (
          let less : k + 1 < s.weights = omega (arith, le, lt, even, zero_is) in (
            at_weights s (k + 1) o (omega (arith, le)) less ∙ half_second s (k + 1) (omega (
              arith,
              le,
              zero_is,
            )),
            less,
          )
          )
      | inr other ↦ absurd (first_no_second (sym e ∙ (at_weights s k o le lt ∙ half_second s k
          (omega (arith, other)))))
    ]
  where
    first_no_second : role.First ≢ role.Second
    first_no_second = λ e. cc

-- and before the second half the first
pub second_before : (s : Parts) (k : ℕ) → Ordered s → part_role s k ≡ role.Second
    → (1 ≤ k) × (part_role s (k - 1) ≡ role.First)
second_before s k o e =
    let w = in_weights s k (λ a. a.no_second e) in
    let le = w.0 in let lt = w.1 in
    elim (cases_eq ((k - s.fill) % 2) 0) [
      | inl zero_is ↦ absurd (first_no_second (sym (at_weights s k o le lt ∙ half_first s k zero_is)
          ∙ e))
      | inr other ↦ (
          let more : s.fill + 1 ≤ k = omega (arith, le, other) in (
            omega (arith, more),
            at_weights s (k - 1) o (omega (arith, more)) (omega (arith, lt)) ∙
                half_first s (k - 1) (omega (arith, more, other)),
          )
          )
    ]
  where
    first_no_second : role.First ≢ role.Second
    first_no_second = λ e. cc

-- a word that names an order is the third one
pub order_third : (s : Parts) (k : ℕ) → part_role s k ≡ role.Order → k ≡ 2
order_third s k e = elim (cases_lt k 3) [
  | inl lt ↦ elim (cases_eq k 0) [
    | inl z ↦ absurd (one_no_order (sym (ap (part_role s) z) ∙ e))
    | inr n0 ↦ elim (cases_eq k 1) [
      | inl u ↦ absurd (units_no_order (sym (ap (part_role s) u) ∙ e))
      | inr n1 ↦ omega (arith, lt, n0, n1)
    ]
  ]
  | inr le ↦ absurd (early_any (λ r. r ≢ role.Order) (λ z. cc) (λ z. cc) (λ z. cc) (λ z. cc)
      (λ z. cc) (λ z. cc) s k (sym (early s k le) ∙ e))
]
  where
    one_no_order : role.OneUnit ≢ role.Order
    one_no_order = λ e. cc

    units_no_order : role.Units ≢ role.Order
    units_no_order = λ e. cc

-- the parts of whole data stand one behind the other
outer_ordered : (f : Numbered) (p : ℕ) → is_whole f p ≡ true → Ordered (outer_parts f (p + 1))
outer_ordered f p h =
    let w = whole_from f p h in
    let i = indexed_from f p w.indexed in
    let s = parted_from f p w.parted in
    let h24 = i.header in let two = i.two in
    let b = s.behind in let s6 = s.to_6 in let s7 = s.to_7 in let s8 = s.to_8 in
    let e9 = s.to_9 in let s10 = s.to_10 in
    let w5 = s.word_5 in let w6 = s.word_6 in let w7 = s.word_7 in let w8 = s.word_8 in
    let w10 = s.word_10 in
    let whole_9 : offset_in f (p + 1) 9 % 4 ≡ 0 =
    omega (arith, s6, s7, s8, e9, w5, w6, w7, w8) in
    record {
      six = omega (arith, h24);
      indexes = omega (arith, two);
      gap = omega (arith, b);
      codes = omega (arith, s6);
      table = omega (arith, s7);
      signature = omega arith;
      units = omega arith;
      values = omega arith;
      fill = omega (arith, s8, e9);
      weights = omega (arith, s10);
      even = omega (arith, s10, w10, whole_9);
    }

-- also with a trie
trie_ordered : (f : Numbered) (p : ℕ) → is_whole f p ≡ true
    → part_at f (p + 1) 7 < part_at f (p + 1) 8
    → Ordered (parts_with f (p + 1 + part_at f (p + 1) 7) (outer_parts f (p + 1)))
trie_ordered f p h lt =
    let o = outer_ordered f p h in
    let w = whole_from f p h in
    let t = trie_from f (p + 1) w.trie lt in
    let ends = t.ends in
    let e9 = (parted_from f p w.parted).to_9 in
    let q : ℕ = p + 1 + part_at f (p + 1) 7 in
    record {
      six = o.six;
      indexes = o.indexes;
      gap = o.gap;
      codes = o.codes;
      table = o.table;
      signature = omega arith;
      units = picks_number (has_wide_values f q) _ _ (λ n. part_at f (p + 1) 7 + 1 ≤ n) (omega
          arith)
          (omega arith);
      values = picks_number (has_wide_values f q) _ _ (λ n. n ≤ trie_head f q (part_at f (p + 1) 7)
          + value_words f q) (omega arith) (omega arith);
      fill = omega (arith, ends, e9, lt);
      weights = o.weights;
      even = o.even;
    }
  where
    picks_number : (b : Bool) (x y : ℕ) (P : ℕ → Type 0) → P x → P y → P (cond b x y)
    picks_number true x y P px py = px
    picks_number false x y P px py = py

pub ordered : (f : Numbered) (p : ℕ) → is_whole f p ≡ true → Ordered (parts_in f (p + 1))
unfolding parts_in
ordered f p h = elim (cases_lt (part_at f (p + 1) 7) (part_at f (p + 1) 8)) [
  | inl lt ↦ (
      let e : nat_lt (part_at f (p + 1) 7) (part_at f (p + 1) 8) ≡ true = grind (arith, nat_tests)
      in
      let Q : Bool → Type 0 = λ b. Ordered (cond b (parts_with f (p + 1 + part_at f (p + 1) 7)
      (outer_parts f (p + 1))) (outer_parts f (p + 1))) in
      subst Q (sym e) (trie_ordered f p h lt)
      )
  | inr ge ↦ (
      let e : nat_lt (part_at f (p + 1) 7) (part_at f (p + 1) 8) ≡ false = grind (arith, nat_tests)
      in
      let Q : Bool → Type 0 = λ b. Ordered (cond b (parts_with f (p + 1 + part_at f (p + 1) 7)
      (outer_parts f (p + 1))) (outer_parts f (p + 1))) in
      subst Q (sym e) (outer_ordered f p h)
      )
]

outer_weights : (f : Numbered) (q : ℕ) → (outer_parts f q).weights ≡ part_at f q 10
outer_weights f q = refl

-- the weights end inside the binary
pub weights_inside : (f : Numbered) (p : ℕ) → is_whole f p ≡ true
    → (parts_in f (p + 1)).weights ≤ (word_in f p + 3) / 4
unfolding parts_in
weights_inside f p h =
    let w = whole_from f p h in
    let words = (indexed_from f p w.indexed).words in
    let s = parted_from f p w.parted in
    let e11 = s.to_11 in let s12 = s.to_12 in let s13 = s.to_13 in let s14 = s.to_14 in
    let s15 = s.to_15 in let s16 = s.to_16 in let s17 = s.to_17 in let s18 = s.to_18 in
    let e19 = s.to_19 in let end = s.inside in
    let top : offset_in f (p + 1) 10 ≤ offset_in f (p + 1) 19 =
    omega (arith, e11, s12, s13, s14, s15, s16, s17, s18, e19) in
    let le : part_at f (p + 1) 10 ≤ (word_in f p + 3) / 4 = omega (arith, words, top, end) in
    weights_by (nat_lt (part_at f (p + 1) 7) (part_at f (p + 1) 8)) le
  where
    weights_by : (b : Bool) → part_at f (p + 1) 10 ≤ (word_in f p + 3) / 4
        → (cond b (parts_with f (p + 1 + part_at f (p + 1) 7) (outer_parts f (p + 1)))
        (outer_parts f (p + 1))).weights ≤ (word_in f p + 3) / 4
    weights_by true le = le
    weights_by false le = le

-- the parts in front, with or without a trie
front_by : (b : Bool) (s o : Parts) → s.header ≡ o.header → s.indexes ≡ o.indexes
    → s.table ≡ o.table → ((cond b s o).header ≡ o.header) × (((cond b s o).indexes ≡ o.indexes)
    × ((cond b s o).table ≡ o.table))
front_by true s o h i t = (h, (i, t))
front_by false s o h i t = (refl, (refl, refl))

pub parts_front : (f : Numbered) (q : ℕ) → ((parts_in f q).header ≡ data_header f q / 4)
    × (((parts_in f q).indexes ≡ data_header f q / 4 + index_count f q)
    × ((parts_in f q).table ≡ part_at f q 7))
unfolding parts_in
parts_front f q =
    front_by (nat_lt (part_at f q 7) (part_at f q 8)) (parts_with f (q + part_at f q 7) (outer_parts
    f q)) (outer_parts f q) refl refl refl

-- the parts with a trie
pub parts_trie : (f : Numbered) (q : ℕ) → part_at f q 7 < part_at f q 8
    → parts_in f q ≡ parts_with f (q + part_at f q 7) (outer_parts f q)
unfolding parts_in
parts_trie f q lt =
    let e : nat_lt (part_at f q 7) (part_at f q 8) ≡ true = grind (arith, nat_tests) in
    ap (λ (b : Bool). cond b (parts_with f (q + part_at f q 7) (outer_parts f q)) (outer_parts f q))
    e

-- What a plan with a pool takes: its limits, its indexes and its units fit, and where each string
-- stands.
use Rattle.std.proofs.Common.{◌≡◌, ℕ, zero, suc, ◌+◌, ◌*◌, ◌/◌, ◌^◌, ◌<◌, ◌≤◌, List, [], ◌∷◌, map}
use Rattle.std.proofs.Common.{length, Option, Some, None, Bool, true, false, cond, ◌&&◌, nat_le}
use Rattle.std.proofs.Common.{◌⊎◌, inl, inr, refl, sym, ◌∙◌, ap, subst, arith, length-append}
use Rattle.std.specs.List.{All, Contains, flat_map, sum_by}
use Rattle.std.specs.Char.Escape.{encode_utf16}
use Rattle.std.specs.Str.{IsUtf8, chars, bytes_eq}
use Rattle.std.specs.Cmp.Lexicographic.{bytes_decides}
use Rattle.std.proofs.Math.Utf8.{encodes}
use Rattle.std.proofs.lemmas.Str.{encodes-chars}
use Rattle.std.proofs.lemmas.Option.{none-some}
use Rattle.std.proofs.lemmas.Bool.Decides.{nat_tests}
use Rattle.std.proofs.lemmas.List.Elements.{All-nil, All-cons, All-head, All-tail}
use Rattle.std.proofs.lemmas.List.Elements.{Contains-append_right}
use Rattle.std.proofs.lemmas.List.Sums.{sum_by-cons}
use Rattle.resb_format.specs.Units.{units}
use Rattle.resb_pool.specs.Plan.{IsPlanAmong}
use Rattle.resb_pool.specs.declared.packing.Packing.{Packing}
use Rattle.resb_pool.proofs.IsRead.{pool_is_read}
use Rattle.resb_lent.specs.LentBeside.{LentTextBy}
use Rattle.resb_lent.specs.PlanWithPool.{IsPlanWithBy, AreLentBy, lent_none, lent_more, lacking}
use Rattle.resb_lent.specs.PlanWithPool.{given}
use Rattle.resb_lent.specs.PlanWithPool.{limit_of, short_limit_of, in_turn, behind}
use Rattle.resb_lent.proofs.Beside.{share_fits}
use Rattle.resb_lent.proofs.Once.{one_index_by}
use Rattle.resb_lent.proofs.PlanRead.{behind_more}
use Rattle.resb_lent.proofs.Read.{Placed, placed_empty, placed_within, placed}
use Rattle.resb_lent.proofs.Standing.{inside}

units_of_char : (c : ℕ) → 0 < length (encode_utf16 c)
units_of_char c = grind (arith, nat_tests)

units_of_chars : (cs : List ℕ) → 0 < length (encodes cs) → 0 < length (flat_map encode_utf16 cs)
units_of_chars [] h = absurd (omega (arith, h))
units_of_chars (c ∷ cs) h = omega (
  arith,
  units_of_char c,
  length-append (encode_utf16 c) (flat_map encode_utf16 cs),
)

-- a text that isn't empty has a unit
some_units : (s : List ℕ) → IsUtf8 s → 0 < length s → 0 < length (units s)
some_units s u h = units_of_chars (chars s) (omega (arith, h, ap length (encodes-chars s u)))

at_most : (k : ℕ) → behind k ≤ k + 1
at_most zero = omega arith
at_most (suc k) = omega (arith, behind_more (suc k) (omega arith))

at_least : (k : ℕ) → k ≤ behind k
at_least zero = omega arith
at_least (suc k) = omega (arith, behind_more (suc k) (omega arith))

-- an index of the pool's has 28 bits
near_index : (block s : List ℕ) (i : ℕ) → IsUtf8 s → Placed block s i → behind i < 2 ^ 28
near_index block s i u (placed_empty z) = omega arith
near_index block s i u (placed_within some own holds e) = omega (
  arith,
  at_most i,
  some_units s u some,
  e,
  own.stands.near,
)

-- and so has one more than the greatest
near_limit : (way : Packing) (block : List ℕ) (A S : List (List ℕ)) (os : List (Option ℕ))
    → All IsUtf8 S → AreLentBy way block A S os → limit_of (given os) < 2 ^ 28
near_limit way block A [] [] u lent_none = omega arith
near_limit way block A [] (o ∷ os) u x = elim x [ ]
near_limit way block A (s ∷ S) [] u x = elim x [ ]
near_limit way block A (s ∷ S) (Some i ∷ os) u (lent_more h more) = omega (
  arith,
  near_index block s i (All-head IsUtf8 s S u) (placed way block A s i h),
  near_limit way block A S os (All-tail IsUtf8 s S u) more,
)
near_limit way block A (s ∷ S) (None ∷ os) u (lent_more h more) =
    near_limit way block A S os (All-tail IsUtf8 s S u) more

index_inside : (block s : List ℕ) (i : ℕ) → Placed block s i → behind i ≤ length block
index_inside block s i (placed_empty z) = omega arith
index_inside block s i (placed_within {r = r} {at = at} some own holds e) =
    omega (arith, at_most i, e, inside block at r own.stands)

-- what a pool has of texts ends within its block
pub limit_within : (way : Packing) (block : List ℕ) (A S : List (List ℕ)) (os : List (Option ℕ))
    → AreLentBy way block A S os → limit_of (given os) ≤ length block
limit_within way block A [] [] lent_none = omega arith
limit_within way block A [] (o ∷ os) x = elim x [ ]
limit_within way block A (s ∷ S) [] x = elim x [ ]
limit_within way block A (s ∷ S) (Some i ∷ os) (lent_more h more) =
    omega (
      arith,
      index_inside block s i (placed way block A s i h),
      limit_within way block A S os more,
    )
limit_within way block A (s ∷ S) (None ∷ os) (lent_more h more) = limit_within way block A S os more

short_fits : (limit own : ℕ) → short_limit_of limit own ≤ 65535
short_fits limit own = by (nat_le limit 65535) (nat_le (limit + own) 65536) refl
  where
    over : (m : ℕ) → limit ≤ m → limit * 65535 / m ≤ 65535
    over zero h = omega (arith, h)
    over (suc m) h = share_fits limit (suc m) (omega arith) h

    by : (a b : Bool) → nat_le limit 65535 ≡ a
        → cond (a && b) limit (limit * 65535 / (limit + own)) ≤ 65535
    by true true e = grind (arith, nat_tests, e)
    by true false e = over (limit + own) (omega arith)
    by false b e = over (limit + own) (omega arith)

no_short : (own : ℕ) → short_limit_of 0 own ≡ 0
no_short own = by (nat_le 0 65535 && nat_le (0 + own) 65536)
  where
    by : (b : Bool) → cond b 0 (0 * 65535 / (0 + own)) ≡ 0
    by true = refl
    by false = omega arith

-- what is summed over the strings that the pool lacks is at most what it is over all
pub lacking_sum : (f : List ℕ → ℕ) (S : List (List ℕ)) (os : List (Option ℕ))
    → sum_by f (lacking S os) ≤ sum_by f S
lacking_sum f [] os = omega arith
lacking_sum f (s ∷ S) [] = omega arith
lacking_sum f (s ∷ S) (Some i ∷ os) = omega (arith, lacking_sum f S os, sum_by-cons f s S)
lacking_sum f (s ∷ S) (None ∷ os) = omega (
  arith,
  lacking_sum f S os,
  sum_by-cons f s S,
  sum_by-cons f s (lacking S os),
)

-- one more than the greatest own offset is at most the number of units
pub own_within : (way : Packing) {B : List ℕ → Type 0} (T : List (List ℕ)) (us : List ℕ)
    (offset : List ℕ → Option ℕ) → IsPlanAmong way B T us offset
    → (ts : List (List ℕ)) (ks : List ℕ) → map offset ts ≡ map Some ks
    → limit_of ks ≤ length us
own_within way T us offset plan ts [] e = omega arith
own_within way T us offset plan [] (k ∷ ks) e = absurd (omega (arith, ap length e))
own_within way T us offset plan (t ∷ ts) (k ∷ ks) e =
    let f : offset t ≡ Some k = cc in
    let g : map offset ts ≡ map Some ks = cc in
    omega (
      arith,
      at_most k,
      (pool_is_read way T us offset plan t k f).0,
      own_within way T us offset plan ts ks g,
    )

-- the index of a string is the pool's, or its offset behind the limit
abbrev IsIndex : Packing → List ℕ → List (List ℕ) → (List ℕ → Option ℕ) → ℕ → List ℕ → ℕ
    → Type 0
IsIndex way block A offset limit s i = LentTextBy way block A s i
    ⊎ ((k : ℕ) × ((j : ℕ) → LentTextBy way block A s j → ⊥) × (offset s ≡ Some k) × (i ≡ limit + k))

one_of : (way : Packing) (block : List ℕ) (A : List (List ℕ)) (offset : List ℕ → Option ℕ)
    (limit : ℕ) (s : List ℕ) (i j : ℕ) → IsIndex way block A offset limit s i
    → IsIndex way block A offset limit s j → i ≡ j
one_of way block A offset limit s i j (inl h) (inl k) = one_index_by way block A s i j h k
one_of way block A offset limit s i j (inl h) (inr (m, none, f, e)) = absurd (none i h)
one_of way block A offset limit s i j (inr (m, none, f, e)) (inl k) = absurd (none j k)
one_of way block A offset limit s i j (inr (m, none, f, e)) (inr (n, more, g, d)) =
    let same : Some m ≡ Some n = sym f ∙ g in
    let is : m ≡ n = cc in
    omega (arith, e, d, is)

-- each string with its index
data Paired (P : List ℕ → ℕ → Type 0) : List (List ℕ) → List ℕ → Type 0 where
  no_pair : Paired P [] []
  pair : {s : List ℕ} {ss : List (List ℕ)} {i : ℕ} {is : List ℕ} → P s i → Paired P ss is
      → Paired P (s ∷ ss) (i ∷ is)

in_pairs : (way : Packing) (block : List ℕ) (A : List (List ℕ)) (offset : List ℕ → Option ℕ)
    (limit : ℕ) (S : List (List ℕ)) (os : List (Option ℕ)) (ks : List ℕ)
    → AreLentBy way block A S os
    → map offset (lacking S os) ≡ map Some ks
    → Paired (IsIndex way block A offset limit) S (in_turn limit os ks)
in_pairs way block A offset limit [] [] ks lent_none e = no_pair
in_pairs way block A offset limit [] (o ∷ os) ks x e = elim x [ ]
in_pairs way block A offset limit (s ∷ S) [] ks x e = elim x [ ]
in_pairs way block A offset limit (s ∷ S) (Some i ∷ os) ks (lent_more h more) e =
    pair (inl h) (in_pairs way block A offset limit S os ks more e)
in_pairs way block A offset limit (s ∷ S) (None ∷ os) [] (lent_more h more) e = cc
in_pairs way block A offset limit (s ∷ S) (None ∷ os) (k ∷ ks) (lent_more h more) e =
    let f : offset s ≡ Some k = cc in
    let g : map offset (lacking S os) ≡ map Some ks = cc in
    pair (inr (k, h, f, refl)) (in_pairs way block A offset limit S os ks more g)

-- the index of the first of some strings that is the text
abbrev pub look : List (List ℕ) → List ℕ → List ℕ → Option ℕ
look [] is q = None
look (s ∷ ss) [] q = None
look (s ∷ ss) (i ∷ is) q = cond (bytes_eq q s) (Some i) (look ss is q)

look_contains : (ss : List (List ℕ)) (is q : List ℕ) (i : ℕ) → look ss is q ≡ Some i → Contains ss q
look_contains [] is q i e = absurd (none-some i e)
look_contains (s ∷ ss) [] q i e = absurd (none-some i e)
look_contains (s ∷ ss) (j ∷ is) q i e =
    by (look_contains ss is q i) (bytes_eq q s) refl e
  where
    by : (look ss is q ≡ Some i → Contains ss q) → (b : Bool) → bytes_eq q s ≡ b
        → cond b (Some j) (look ss is q) ≡ Some i → Contains (s ∷ ss) q
    by later true f g = (0, omega arith, sym ((bytes_decides q s).0 f))
    by later false f g = Contains-append_right (s ∷ []) ss q (later g)

-- a text that isn't among the strings has no index
pub look_others : (ss : List (List ℕ)) (is q : List ℕ) → (Contains ss q → ⊥) → look ss is q ≡ None
look_others ss is q none = by (look ss is q) refl
  where
    by : (o : Option ℕ) → look ss is q ≡ o → o ≡ None
    by None e = refl
    by (Some i) e = absurd (none (look_contains ss is q i e))

module _ (P : List ℕ → ℕ → Type 0) where
  look_is : {ss : List (List ℕ)} {is : List ℕ} → Paired P ss is → (q : List ℕ) (i : ℕ)
      → look ss is q ≡ Some i → P q i
  look_is no_pair q i e = absurd (none-some i e)
  look_is (pair {s = s'} {ss = ss'} {i = j} {is = is'} h more) q i e =
      by (look_is more q i) (bytes_eq q s') refl e
    where
      by : (look ss' is' q ≡ Some i → P q i) → (b : Bool) → bytes_eq q s' ≡ b
          → cond b (Some j) (look ss' is' q) ≡ Some i → P q i
      by later true f g =
          let same : j ≡ i = cc in
          subst (λ t. P t i) (sym ((bytes_decides q s').0 f)) (subst (P s') same h)
      by later false f g = later g

  look_some : {ss : List (List ℕ)} {is : List ℕ} → Paired P ss is → (q : List ℕ)
      → Contains ss q → (i : ℕ) × (look ss is q ≡ Some i)
  look_some no_pair q c = absurd (omega (arith, c.1))
  look_some (pair {s = s'} {ss = ss'} {i = j} {is = is'} h more) q (zero, lt, is) =
      (j, ap (λ b. cond b (Some j) (look ss' is' q)) ((bytes_decides q s').1 (sym is)))
  look_some (pair {s = s'} {ss = ss'} {i = j} {is = is'} h more) q (suc n, lt, is) =
      by (bytes_eq q s') (look_some more q (n, omega (arith, lt), is))
    where
      by : (b : Bool) → (i : ℕ) × (look ss' is' q ≡ Some i)
          → (i : ℕ) × (cond b (Some j) (look ss' is' q) ≡ Some i)
      by true r = (j, refl)
      by false r = r

  each_looked : (f : List ℕ → Option ℕ) → ((s : List ℕ) (i j : ℕ) → P s i → P s j → i ≡ j)
      → ((s : List ℕ) (i : ℕ) → f s ≡ Some i → P s i) → {ss : List (List ℕ)} {is : List ℕ}
      → Paired P ss is → ((s : List ℕ) → Contains ss s → (i : ℕ) × (f s ≡ Some i))
      → map f ss ≡ map Some is
  each_looked f one found no_pair there = refl
  each_looked f one found (pair {s = s'} {ss = ss'} {i = j} {is = is'} h more) there =
      let r = there s' (0, omega arith, refl) in
      let e : f s' ≡ Some j = r.1 ∙ ap Some (one s' r.0 j (found s' r.0 r.1) h) in
      let rest = each_looked f one found more
      (λ q c. there q (Contains-append_right (s' ∷ []) ss' q c)) in
      λ k. e k ∷ rest k

indexes_fit : (way : Packing) (block : List ℕ) (A : List (List ℕ)) (limit : ℕ)
    (S : List (List ℕ)) (os : List (Option ℕ)) (ks : List ℕ)
    → All IsUtf8 S → AreLentBy way block A S os → limit < 2 ^ 28 → limit + limit_of ks ≤ 2 ^ 28
    → All (λ i. i < 2 ^ 28) (in_turn limit os ks)
indexes_fit way block A limit [] [] ks u x h room = All-nil (λ i. i < 2 ^ 28)
indexes_fit way block A limit [] (o ∷ os) ks u x h room = elim x [ ]
indexes_fit way block A limit (s ∷ S) [] ks u x h room = elim x [ ]
indexes_fit way block A limit (s ∷ S) (Some i ∷ os) ks u (lent_more a more) h room =
    All-cons (λ k. k < 2 ^ 28) i (in_turn limit os ks)
    (omega (
      arith,
      at_least i,
      near_index block s i (All-head IsUtf8 s S u) (placed way block A s i a),
    ))
    (indexes_fit way block A limit S os ks (All-tail IsUtf8 s S u) more h room)
indexes_fit way block A limit (s ∷ S) (None ∷ os) [] u x h room = All-nil (λ i. i < 2 ^ 28)
indexes_fit way block A limit (s ∷ S) (None ∷ os) (k ∷ ks) u (lent_more a more) h room =
    All-cons (λ i. i < 2 ^ 28) (limit + k) (in_turn limit os ks) (below k h (omega (arith, room)))
    (indexes_fit way block A limit S os ks (All-tail IsUtf8 s S u) more h (omega (arith, room)))
  where
    below : (n : ℕ) → limit < 2 ^ 28 → limit + behind n ≤ 2 ^ 28 → limit + n < 2 ^ 28
    below zero small within = omega (arith, small)
    below (suc n) small within = omega (arith, within, behind_more (suc n) (omega arith))

module _ (way : Packing) (block : List ℕ) (S : List (List ℕ)) (us is : List ℕ) (limit short : ℕ)
    (w : IsPlanWithBy way block S us is limit short) where
  -- the limits fit their bits
  pub limit_fits : limit < 2 ^ 28
  limit_fits = omega (arith, w.limit_is, near_limit way block S S w.found w.texts w.lent)

  pub short_limit_fits : short ≤ 65535
  short_limit_fits = omega (arith, w.short_is, short_fits limit (limit_of w.offsets))

  pub none_short : limit ≡ 0 → short ≡ 0
  none_short e = w.short_is ∙ ap (λ n. short_limit_of n (limit_of w.offsets)) e
      ∙ no_short (limit_of w.offsets)

  -- so do the indexes
  pub near_indexes : All (λ i. i < 2 ^ 28) is
  near_indexes = subst (All (λ i. i < 2 ^ 28)) (sym w.indexes_are)
      (indexes_fit way block S limit S w.found w.offsets w.texts w.lent limit_fits w.room)

  pairs : Paired (IsIndex way block S w.offset limit) S is
  pairs = subst (Paired (IsIndex way block S w.offset limit) S) (sym w.indexes_are)
      (in_pairs way block S w.offset limit S w.found w.offsets w.lent w.offsets_are)

  -- each string is found with its index
  pub looked_up : map (look S is) S ≡ map Some is
  looked_up =
      each_looked (IsIndex way block S w.offset limit) (look S is)
      (one_of way block S w.offset limit)
      (look_is (IsIndex way block S w.offset limit) pairs) pairs
      (look_some (IsIndex way block S w.offset limit) pairs)

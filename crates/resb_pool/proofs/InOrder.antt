-- Records in order: distinct texts stay distinct, and each record precedes the next. Where records
-- close.
use Rattle.std.proofs.Common.{◌≡◌, ℕ, zero, suc, ◌+◌, ◌<◌, ◌≤◌, List, [], ◌∷◌, ◌++◌, length, get_or}
use Rattle.std.proofs.Common.{take, drop, Bool, true, false, cond, refl, sym, ◌∙◌, ap, subst, arith}
use Rattle.std.proofs.Common.{length-append, true≢false, inl, inr, ◌⊎◌, append_assoc, append-nil}
use Rattle.std.proofs.Common.{get_or-set_other, get_or-set_same}
use Rattle.std.specs.List.{All, Contains, sum_by, flat_map}
use Rattle.std.specs.List.Sorted.{IsPermutation}
use Rattle.std.specs.Prelude.{slice_set}
use Rattle.std.proofs.lemmas.Bool.{cases_eq}
use Rattle.std.proofs.lemmas.List.{get_or-take, length-take-le, map_more, map-append}
use Rattle.std.proofs.lemmas.List.{take-append-drop, drop_more, take-take}
use Rattle.std.proofs.lemmas.List.Elements.{All-more, All-take}
use Rattle.std.specs.Str.{bytes_eq, IsUtf8}
use Rattle.std.specs.Cmp.Lexicographic.{bytes_decides}
use Rattle.std.specs.Ordering.{nat_cmp, ordering_then, is_lt}
use Rattle.std.specs.declared.cmp.Ordering.{Ordering}
use Rattle.std.proofs.lemmas.List.Sums.{sum_by-cons, sum_by-append}
use Rattle.std.proofs.lemmas.List.Sorted.{sum_by-IsPermutation, Contains-permutation}
use Rattle.std.proofs.lemmas.List.Sorted.{IsPermutation-sym}
use Rattle.resb_format.specs.Units.{units, marker, size}
use Rattle.resb_pool.specs.Order.{start_cmp}
use Rattle.resb_pool.specs.Records.{EachOnce, IsRecords}
use Rattle.resb_pool.specs.Pool.{Saved, Precedes, fewer_units, saves_more, smaller_text}
use Rattle.resb_pool.specs.Pool.{record_units, ClosesAt}
use Rattle.resb_pool.specs.Inner.Placing.{AreEnds, indexed_text, record_text, record_texts}
use Rattle.resb_pool.specs.Inner.Placing.{record_cmp}
use Rattle.resb_pool.specs.declared.records.Record.{Record}
use Rattle.resb_pool.specs.declared.packing.Packing.{Packing}
use Rattle.resb_pool.proofs.TextLists.{TextList}
use Rattle.resb_pool.proofs.Numbers.{cmp_cases}
use Rattle.resb_pool.proofs.StartOrder.{start_order}

-- how often x stands among the texts
abbrev one : List ℕ → List ℕ → ℕ
one x y = cond (bytes_eq x y) 1 0

abbrev often : List ℕ → TextList → ℕ
often x xs = sum_by (one x) xs

is_one : (x y : List ℕ) → x ≡ y → one x y ≡ 1
is_one x y e = ap (λ b. cond {A = ℕ} b 1 0) ((bytes_decides x y).1 e)

one_cases : (x y : List ℕ) → ((one x y ≡ 1) × (x ≡ y)) ⊎ (one x y ≡ 0)
one_cases x y = by (bytes_eq x y) refl
  where
    by : (b : Bool) → bytes_eq x y ≡ b → ((one x y ≡ 1) × (x ≡ y)) ⊎ (one x y ≡ 0)
    by true e = inl (ap (λ b. cond {A = ℕ} b 1 0) e, (bytes_decides x y).0 e)
    by false e = inr (ap (λ b. cond {A = ℕ} b 1 0) e)

often_none : (x : List ℕ) (xs : TextList) → (Contains xs x → ⊥) → often x xs ≡ 0
often_none x [] h = refl
often_none x (y ∷ ys) h =
    let n = often_none x ys (λ c. h (suc c.0, omega (arith, c.1), c.2)) in
    elim (one_cases x y) [
      | inl e ↦ absurd (h (0, omega arith, sym e.1))
      | inr e ↦ omega (arith, sum_by-cons (one x) y ys, n, e)
    ]

often_once : (x : List ℕ) (xs : TextList) → EachOnce xs → often x xs ≤ 1
often_once x [] d = omega arith
often_once x (y ∷ ys) d =
    let m = often_once x ys d.1 in
    elim (one_cases x y) [
      | inl e ↦ (let n = often_none x ys (λ c. d.0 (subst (Contains ys) e.1 c)) in
          omega (arith, sum_by-cons (one x) y ys, n, e.0))
      | inr e ↦ omega (arith, sum_by-cons (one x) y ys, m, e)
    ]

often_some : (x : List ℕ) (xs : TextList) → Contains xs x → 1 ≤ often x xs
often_some x [] c = absurd (omega (arith, c.1))
often_some x (y ∷ ys) (zero, lt, is) = omega (arith, sum_by-cons (one x) y ys, is_one x y (sym is))
often_some x (y ∷ ys) (suc k, lt, is) =
    omega (arith, sum_by-cons (one x) y ys, often_some x ys (k, omega arith, is))

once_distinct : (xs : TextList) → ((x : List ℕ) → often x xs ≤ 1) → EachOnce xs
once_distinct [] h = tt
once_distinct (y ∷ ys) h = (
  λ c. omega (arith, h y, sum_by-cons (one y) y ys, often_some y ys c, is_one y y refl),
  once_distinct ys (λ x. omega (arith, h x, sum_by-cons (one x) y ys)),
)

pub distinct_permutation : (xs ys : TextList) → IsPermutation xs ys → EachOnce xs → EachOnce ys
distinct_permutation xs ys p d =
    once_distinct ys (λ x. omega (arith, often_once x xs d, sum_by-IsPermutation (one x) xs ys p))

pub records_permutation : (S xs ys : TextList) → IsPermutation xs ys → IsRecords S xs
    → IsRecords S ys
records_permutation S xs ys p h = record {
  once = distinct_permutation xs ys p h.once;
  just = λ s. (
    λ c. (h.just s).0 (Contains-permutation ys xs s (IsPermutation-sym xs ys p) c),
    λ r. Contains-permutation xs ys s p ((h.just s).1 r),
  );
}

-- two neighbours of distinct texts differ
pub neighbours_differ : (xs : TextList) (k : ℕ) → EachOnce xs → suc k < length xs
    → get_or xs k [] ≡ get_or xs (suc k) [] → ⊥
neighbours_differ [] k d h e = omega arith
neighbours_differ (x ∷ []) zero d h e = omega arith
neighbours_differ (x ∷ y ∷ xs) zero d h e = d.0 (0, omega arith, sym e)
neighbours_differ (x ∷ xs) (suc k) d h e = neighbours_differ xs k d.1 (omega arith) e

-- of two records in order, the first precedes
module _ (way : Packing) (A : List ℕ → Type 0) (S T : TextList) (x y : Record)
    (ux : x.unit_count ≡ length (units (record_text T x)))
    (uy : y.unit_count ≡ length (units (record_text T y)))
    (sx : Saved way A S (record_text T x) x.saved)
    (sy : Saved way A S (record_text T y) y.saved) where
  pub in_order : IsUtf8 (record_text T x) → IsUtf8 (record_text T y)
      → is_lt (record_cmp way T y x) ≡ false → (record_text T x ≡ record_text T y → ⊥)
      → Precedes way A S (record_text T x) (record_text T y)
  in_order u v h ne = elim (cmp_cases y.unit_count x.unit_count) [
    | inl l ↦ absurd (true≢false (sym (ap (λ o. is_lt (ordering_then o later)) l.0) ∙ h))
    | inr (inr g) ↦ fewer_units (omega (arith, ux, uy, g.1))
    | inr (inl e) ↦
        (let units_same : length (units (record_text T x)) ≡ length (units (record_text T y)) =
        omega (arith, ux, uy, e.1) in
        let h2 : is_lt later ≡ false = sym (ap (λ o. is_lt (ordering_then o later)) e.0) ∙ h in
        elim (cmp_cases x.saved y.saved) [
          | inl l ↦ absurd (true≢false (sym (ap (λ o. is_lt (ordering_then o last)) l.0) ∙ h2))
          | inr (inr g) ↦ saves_more x.saved y.saved units_same sx sy g.1
          | inr (inl f) ↦ smaller_text x.saved units_same sx
              (subst (Saved way A S (record_text T y)) (sym f.1) sy)
              (start_order way (record_text T x) (record_text T y) u v
              (sym (ap (λ o. is_lt (ordering_then o last)) f.0) ∙ h2) ne)
        ])
  ]
    where
      last : Ordering
      last = start_cmp way (record_text T y) (record_text T x)

      later : Ordering
      later = ordering_then (nat_cmp x.saved y.saved) last

-- places of closing zeros
one_long : length {A = ℕ} (0 ∷ []) ≡ 1
one_long = refl

-- records take as many units as their sizes add up to
pub length-records : (qs : TextList) → length (flat_map record_units qs) ≡ sum_by size qs
length-records [] = refl
length-records (q ∷ qs) = omega (
  arith,
  length-append (record_units q) (flat_map record_units qs),
  length-append (marker q) (units q ++ 0 ∷ []),
  length-append (units q) (0 ∷ []),
  one_long,
  sum_by-cons size q qs,
  length-records qs,
)

module _ (T : TextList) (rs : List Record) (i : ℕ) (d : Record) (l : i < length rs) where
  abbrev here : Record
  here = get_or rs i d

  pub texts-take : record_texts T (take (i + 1) rs)
      ≡ record_texts T (take i rs) ++ record_text T here ∷ []
  texts-take = map_more (record_text T) rs i d l

  texts-split : record_texts T rs
      ≡ record_texts T (take i rs) ++ record_text T here ∷ record_texts T (drop (i + 1) rs)
  texts-split = ap (record_texts T) (sym (take-append-drop i rs)
      ∙ ap (λ z. take i rs ++ z) (drop_more rs i d l))
      ∙ map-append (record_text T) (take i rs) (here ∷ drop (i + 1) rs)

  -- a record closes behind those before it
  pub closes_at : (k : ℕ) → k ≡ sum_by size (record_texts T (take i rs)) + size (record_text T here)
      → ClosesAt (record_texts T rs) (record_text T here) k
  closes_at k e = record {
    before = record_texts T (take i rs);
    after = record_texts T (drop (i + 1) rs);
    is = texts-split;
    place = e;
  }

  -- so many units as the records before a record and itself take
  pub units_up_to_record : sum_by size (record_texts T (take i rs)) + size (record_text T here)
      ≤ sum_by size (record_texts T rs)
  units_up_to_record =
      let t = record_text T here in
      let rest = record_texts T (drop (i + 1) rs) in
      let e = ap (sum_by size) texts-split in
      let f = sum_by-append size (record_texts T (take i rs)) (t ∷ rest) in
      omega (arith, e, f, sum_by-cons size t rest)

  -- the place of a closing zero more
  pub ends_put : (es : List ℕ) (k : ℕ) → here.index < length es → AreEnds T rs (take i rs) es
      → ClosesAt (record_texts T rs) (record_text T here) k
      → AreEnds T rs (take (i + 1) rs) (slice_set es here.index k)
  ends_put es k w h c = record {
    closes = All-more (λ q. Closes q (get_or new q.index 0)) rs i d l
        (λ j f m. elsewhere (get_or (take i rs) j f) (h.closes j f m)) (at_index here refl);
    others = λ j f.
        let back = take-take i (i + 1) rs (omega arith) in
        let ne : here.index ≡ j → ⊥ = subst (λ (q : Record). q.index ≡ j → ⊥)
        (get_or-take (i + 1) rs i d (omega arith))
        (f i d (omega (arith, l, length-take-le (i + 1) rs (omega (arith, l))))) in
        get_or-set_other es here.index j k 0 (λ e. ne (sym e))
        ∙ h.others j (subst (All (λ (q : Record). q.index ≡ j → ⊥)) back
        (All-take (λ (q : Record). q.index ≡ j → ⊥) i (take (i + 1) rs) f));
  }
    where
      new : List ℕ
      new = slice_set es here.index k

      Closes : Record → ℕ → Type 0
      Closes q n = ClosesAt (record_texts T rs) (record_text T q) n

      at_index : (q : Record) → q.index ≡ here.index → Closes q (get_or new q.index 0)
      at_index q e =
          let v : get_or new q.index 0 ≡ k = ap (λ z. get_or new z 0) e
          ∙ get_or-set_same es here.index k 0 w in
          subst (Closes q) (sym v) (subst (λ z. ClosesAt (record_texts T rs) (indexed_text T z) k)
          (sym e) c)

      elsewhere : (q : Record) → Closes q (get_or es q.index 0) → Closes q (get_or new q.index 0)
      elsewhere q old = elim (cases_eq q.index here.index) [
        | inl e ↦ at_index q e
        | inr ne ↦ subst (Closes q) (sym (get_or-set_other es here.index q.index k 0 ne)) old
      ]

pub records-push : (qs : TextList) (t : List ℕ)
    → flat_map record_units (qs ++ t ∷ []) ≡ flat_map record_units qs ++ record_units t
records-push [] t = append-nil (record_units t)
records-push (q ∷ qs) t = ap (λ l. record_units q ++ l) (records-push qs t)
    ∙ sym (append_assoc (record_units q) (flat_map record_units qs) (record_units t))

pub texts_flat : (xs ys : TextList) → flat_map record_units (xs ++ ys) ≡ flat_map record_units xs ++
    flat_map record_units ys
texts_flat [] ys = refl
texts_flat (x ∷ xs) ys = ap (λ l. record_units x ++ l) (texts_flat xs ys)
    ∙ sym (append_assoc (record_units x) (flat_map record_units xs) (flat_map record_units ys))

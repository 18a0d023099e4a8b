-- A copy of a text more: the distinct texts and their measures.
use Rattle.std.proofs.Common.{◌≡◌, ℕ, zero, suc, ◌+◌, ◌<◌, ◌^◌, List, [], ◌∷◌, ◌++◌, length, get_or}
use Rattle.std.proofs.Common.{◌||◌, Bool, Bor, true, false, cond, not, Some, None, inl, inr, ◌↔◌}
use Rattle.std.proofs.Common.{refl, sym, ◌∙◌, ap, subst, arith, true≢false, get_or-set_other}
use Rattle.std.proofs.Common.{get_or-set_same}
use Rattle.std.specs.Prelude.{slice_set, slice_get}
use Rattle.std.specs.List.{All, Contains, list_any}
use Rattle.std.specs.Str.{bytes_eq, IsUtf8}
use Rattle.std.specs.Cmp.Lexicographic.{bytes_decides}
use Rattle.std.proofs.lemmas.Bool.{cases_eq, or_parts}
use Rattle.std.proofs.lemmas.List.{get_or_append_left, get_or_push, length-set, length_push}
use Rattle.std.proofs.lemmas.List.{map_push, get_or-map, length-map}
use Rattle.std.proofs.lemmas.List.Elements.{All-push, Contains-append_left, Contains-push}
use Rattle.std.proofs.lemmas.List.Elements.{Contains-push_cases}
use Rattle.indexmap.specs.IndexSet.{insert_key}
use Rattle.resb_format.specs.Units.{units, size}
use Rattle.resb_pool.specs.Records.{EachOnce}
use Rattle.resb_pool.specs.Plan.{nows, texts_size}
use Rattle.resb_pool.specs.Inner.Placing.{indexed_text, IsMeasure, AreMeasures, AreTexts}
use Rattle.resb_pool.specs.declared.measure.Measure.{Measure}
use Rattle.resb_pool.proofs.TextLoops.{blank}
use Rattle.resb_pool.proofs.Distinct.{one_index, distinct_push}
use Rattle.resb_pool.proofs.Sizes.{copy_same, copy_other, copies-push, copies_none, copies_within}
use Rattle.resb_pool.proofs.Sizes.{marker_le}
use Rattle.resb_pool.proofs.TextLists.{TextList}
use Rattle.resb_pool.proofs.Numbers.{old_or_new}

abbrev Key : Type 0
Key = Bor (List ℕ)

-- whether two keys are one text
abbrev pub same_key : Key → Key → Bool
same_key x y = bytes_eq x.now y.now

-- the texts of D and t, and the measures of the texts of D
pub record IsReady (D : TextList) (t : List ℕ) (T : TextList) (ms : List Measure) : Type 0 where
  pub utf8 : All IsUtf8 (D ++ t ∷ [])
  pub once : EachOnce T
  pub same : (s : List ℕ) → Contains T s ↔ Contains (D ++ t ∷ []) s
  pub len : length ms ≡ length T
  pub measured : AreMeasures D T ms

module _ (D T : TextList) (ms : List Measure) (h : AreTexts D T ms) (t : List ℕ)
    (u : IsUtf8 t) where
  pub ready_known : Contains T t → IsReady D t T ms
  ready_known c = record {
    utf8 = All-push IsUtf8 D t h.utf8 u;
    once = h.once;
    same = λ s. (
      λ x. Contains-append_left D (t ∷ []) s ((h.same s).0 x),
      λ x. elim (Contains-push_cases D t s x) [
        | inl y ↦ (h.same s).1 y
        | inr q ↦
            subst (Contains T) q c
      ],
    );
    len = h.len;
    measured = h.measured;
  }

  pub ready_new : (Contains T t → ⊥) → (m : Measure) → m.unit_count ≡ length (units t)
      → m.size ≡ size t → m.total ≡ 0 → IsReady D t (T ++ t ∷ []) (ms ++ m ∷ [])
  ready_new f m a b z = record {
    utf8 = All-push IsUtf8 D t h.utf8 u;
    once = distinct_push T t h.once f;
    same = λ s. (
      λ x. elim (Contains-push_cases T t s x) [
        | inl y ↦
            Contains-append_left D (t ∷ []) s ((h.same s).0 y)
        | inr q ↦
            subst (Contains (D ++ t ∷ [])) q (Contains-push D t)
      ],
      λ x. elim (Contains-push_cases D t s x) [
        | inl y ↦
            Contains-append_left T (t ∷ []) s ((h.same s).1 y)
        | inr q ↦
            subst (Contains (T ++ t ∷ [])) q (Contains-push T t)
      ],
    );
    len = omega (arith, h.len, length_push ms m, length_push T t);
    measured = λ i d l. elim (old_or_new (length T) i (omega (arith, l, length_push T t))) [
      | inl k ↦
          subst (λ s. IsMeasure D s (get_or (ms ++ m ∷ []) i d))
          (sym (get_or_append_left T (t ∷ []) [] i k))
          (subst (IsMeasure D (indexed_text T i))
          (sym (get_or_append_left ms (m ∷ []) d i (omega (arith, k, h.len))))
          (h.measured i d k))
      | inr e ↦
          subst (λ s. IsMeasure D s (get_or (ms ++ m ∷ []) i d))
          (sym (get_or_push T t [] i (sym e)))
          (subst (IsMeasure D t) (sym (get_or_push ms m d i (h.len ∙ sym e)))
          (record {
            units_is = a;
            size_is = b;
            total_is = z
                ∙ sym (copies_none D t (λ c. f ((h.same t).1 c)));
          }))
    ];
  }

module _ (D : TextList) (t : List ℕ) (T : TextList) (ms : List Measure) (h : IsReady D t T ms)
    (j : ℕ)
    (l : j < length T) (at : indexed_text T j ≡ t) (old : Measure) (is : old
    ≡ get_or ms j old) where
  own : IsMeasure D t old
  own = subst (λ s. IsMeasure D s old) at (subst (IsMeasure D (indexed_text T j)) (sym is)
      (h.measured j old l))

  pub count_is : old.unit_count ≡ length (units t)
  count_is = own.units_is

  pub count_fits : length (units t) < 2 ^ 28 → texts_size D < 2 ^ 28 → old.total + old.size < 2 ^ 32
  count_fits short small = omega (
    arith,
    own.total_is,
    own.size_is,
    copies_within D t,
    marker_le t,
    short,
    small,
  )

  -- the copy is counted
  pub counted : (new : Measure) → new.unit_count ≡ old.unit_count → new.size ≡ old.size
      → new.total ≡ old.total + old.size → AreTexts (D ++ t ∷ []) T (slice_set ms j new)
  counted new a b c = record {
    utf8 = h.utf8;
    once = h.once;
    same = h.same;
    len = length-set ms j new ∙ h.len;
    measured = λ i d k. elim (cases_eq i j) [
      | inl q ↦
          let e : indexed_text T i ≡ t = ap (indexed_text T) q ∙ at in
          let g : get_or (slice_set ms j new) i d ≡ new =
          ap (λ z. get_or (slice_set ms j new) z d) q
          ∙ get_or-set_same ms j new d (omega (arith, l, h.len)) in
          subst (λ s. IsMeasure (D ++ t ∷ []) s (get_or (slice_set ms j new) i d)) (sym e)
          (subst (IsMeasure (D ++ t ∷ []) t) (sym g)
          (record {
            units_is = a ∙ own.units_is;
            size_is = b ∙ own.size_is;
            total_is = omega (
              arith,
              c,
              own.total_is,
              own.size_is,
              copies-push D t t,
              copy_same t t refl,
            );
          }))
      | inr ne ↦
          let o = h.measured i d k in
          let apart : indexed_text T i ≡ t
          → ⊥ = λ e. ne (one_index T i j h.once k l (e ∙ sym at)) in
          subst (IsMeasure (D ++ t ∷ []) (indexed_text T i))
          (sym (get_or-set_other ms j i new d ne))
          (record {
            units_is = o.units_is;
            size_is = o.size_is;
            total_is =
                omega (
                  arith,
                  o.total_is,
                  copies-push D t (indexed_text T i),
                  copy_other (indexed_text T i) t apart,
                );
          })
    ];
  }

-- keys as the set has them
pub any_none : (ks : List Key) (t : List ℕ) → list_any (λ k. bytes_eq t k.now) ks ≡ false
    → Contains (nows ks) t → ⊥
any_none [] t e c = omega (arith, c.1)
any_none (k ∷ ks) t e (zero, lt, is) = true≢false (sym ((bytes_decides t k.now).1 (sym is))
    ∙ (or_parts (bytes_eq t k.now) (list_any (λ x. bytes_eq t x.now) ks) e).0)
any_none (k ∷ ks) t e (suc i, lt, is) =
    any_none ks t (or_parts (bytes_eq t k.now) (list_any (λ x. bytes_eq t x.now) ks) e).1 (
      i,
      omega (arith, lt),
      is,
    )

pub stored_at : (ks : List Key) (i : ℕ) (k : Key) → slice_get ks i ≡ Some k
    → indexed_text (nows ks) i ≡ k.now
stored_at [] i k e = absurd (let z : None ≡ Some k = e in cc)
stored_at (x ∷ ks) zero k e = (let q : x ≡ k = cc in ap (λ z. z.now) q)
stored_at (x ∷ ks) (suc i) k e = stored_at ks i k e

pub text_nows : (ks : List Key) (i : ℕ) → i < length ks
    → (get_or ks i blank).now ≡ indexed_text (nows ks) i
text_nows ks i l = sym (get_or-map (λ (y : Key). y.now) ks i blank [] l)

pub length-nows : (ks : List Key) → length (nows ks) ≡ length ks
length-nows ks = length-map ks (λ (y : Key). y.now)

pub any_some : (ks : List Key) (t : List ℕ) → list_any (λ k. bytes_eq t k.now) ks ≡ true
    → Contains (nows ks) t
any_some [] t e = absurd (true≢false (sym e))
any_some (k ∷ ks) t e = by (any_some ks t) (bytes_eq t k.now) refl
  where
    by : (list_any (λ k. bytes_eq t k.now) ks ≡ true → Contains (nows ks) t) → (b : Bool)
        → bytes_eq t k.now ≡ b → Contains (nows (k ∷ ks)) t
    by rest true f = (0, omega arith, sym ((bytes_decides t k.now).0 f))
    by rest false f =
        let c = rest (sym (ap (λ c. c || list_any (λ k. bytes_eq t k.now) ks) f) ∙ e) in
        (suc c.0, omega (arith, c.1), c.2)

-- what a set that takes a key in says of texts and measures
module _ (D : TextList) (ks new : List Key) (t : Key) (ms : List Measure)
    (h : AreTexts D (nows ks) ms)
    (u : IsUtf8 t.now) (e : new ≡ insert_key same_key ks t) (b : Bool)
    (is : b ≡ not (list_any (same_key t) ks)) where
  pub taken_known : b ≡ false → IsReady D t.now (nows new) ms
  taken_known f = by (list_any (same_key t) ks) refl
    where
      by : (a : Bool) → list_any (same_key t) ks ≡ a → IsReady D t.now (nows new) ms
      by true g = subst (λ (z : List Key). IsReady D t.now (nows z) ms)
          (sym (e ∙ ap (λ a. cond a ks (ks ++ t ∷ [])) g)) (ready_known D (nows ks) ms h t.now u
          (any_some ks t.now g))
      by false g = absurd (true≢false (sym (is ∙ ap not g) ∙ f))

  pub taken_new : b ≡ true → (m : Measure) → m.unit_count ≡ length (units t.now)
      → m.size ≡ size t.now → m.total ≡ 0 → IsReady D t.now (nows new) (ms ++ m ∷ [])
  taken_new f m p q z = by (list_any (same_key t) ks) refl
    where
      by : (a : Bool) → list_any (same_key t) ks ≡ a → IsReady D t.now (nows new) (ms ++ m ∷ [])
      by false g =
          subst (λ (l : TextList). IsReady D t.now l (ms ++ m ∷ []))
          (sym (ap nows (e ∙ ap (λ a. cond a ks (ks ++ t ∷ [])) g)
          ∙ map_push (λ (y : Key). y.now) ks t))
          (ready_new D (nows ks) ms h t.now u (any_none ks t.now g) m p q z)
      by true g = absurd (true≢false (sym f ∙ is ∙ ap not g))

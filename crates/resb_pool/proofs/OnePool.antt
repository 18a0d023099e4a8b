-- Strings have one pool, and each text one offset in it.
use Rattle.std.proofs.Common.{◌≡◌, ℕ, suc, ◌+◌, ◌<◌, List, [], ◌∷◌, ◌++◌, length}
use Rattle.std.proofs.Common.{slice_index_or, Option, Some, None, MatchOption, inl, inr}
use Rattle.std.proofs.Common.{refl, sym, ◌∙◌, ap, subst, arith}
use Rattle.std.specs.List.{All, Contains, sum_by, flat_map}
use Rattle.std.specs.Str.{IsUtf8}
use Rattle.std.proofs.lemmas.List.Elements.{Contains-append_right}
use Rattle.resb_format.specs.Units.{size}
use Rattle.resb_pool.specs.Records.{EachOnce}
use Rattle.resb_pool.specs.Pool.{SizeIn, size_none, size_here, size_elsewhere, Saved, Precedes}
use Rattle.resb_pool.specs.Pool.{fewer_units, saves_more, smaller_text, record_units, ClosesAt}
use Rattle.resb_pool.specs.Pool.{IsPool, Off, off_empty, off_within}
use Rattle.resb_pool.specs.Plan.{IsPlanAmong}
use Rattle.resb_pool.specs.declared.packing.Packing.{Packing}
use Rattle.resb_pool.specs.declared.packing.Packing.TheVariants.{Plain, Compact}
use Rattle.resb_pool.proofs.Distinct.{cons_cases, Contains-first}
use Rattle.resb_pool.proofs.Sharing.{one_container}
use Rattle.resb_pool.proofs.TextLists.{TextList}
use Rattle.resb_pool.proofs.StartOrder.{start_asym, start_total}

module _ (way : Packing) (A : List ℕ → Type 0) (S : TextList) where
  size_once : (r : List ℕ) (ss : TextList) (m n : ℕ) → SizeIn way S r ss m → SizeIn way S r ss n
      → m ≡ n
  size_once r _ _ _ size_none size_none = refl
  size_once r _ _ _ (size_here {s} {ss} {n = m} h p) (size_here {n} k q) =
      ap (λ j. size s + j) (size_once r ss m n p q)
  size_once r _ _ _ (size_here {s} {ss} {n = m} h p) (size_elsewhere {n} k q) = absurd (k h)
  size_once r _ _ _ (size_elsewhere {s} {ss} {n = m} h p) (size_here {n} k q) = absurd (h k)
  size_once r _ _ _ (size_elsewhere {s} {ss} {n = m} h p) (size_elsewhere {n} k q) =
      size_once r ss m n p q

  pub saved_once : (r : List ℕ) (m n : ℕ) → Saved way A S r m → Saved way A S r n → m ≡ n
  saved_once r m n p q = by way size_once p q
    where
      by : (w : Packing) → ((r : List ℕ) (ss : TextList) (m n : ℕ) → SizeIn w S r ss m
          → SizeIn w S r ss n → m ≡ n) → Saved w A S r m → Saved w A S r n → m ≡ n
      by Plain once p q = omega (arith, once r S (m + size r) (n + size r) p q)
      by Compact once (inl p) (inl q) = omega (arith, once r S (m + size r) (n + size r) p.1 q.1)
      by Compact once (inl p) (inr q) = absurd (q.0 p.0)
      by Compact once (inr p) (inl q) = absurd (p.0 q.0)
      by Compact once (inr p) (inr q) = p.1 ∙ sym q.1

  asym : (r q : List ℕ) → Precedes way A S r q → Precedes way A S q r → ⊥
  asym r q (fewer_units h) (fewer_units k) = absurd (omega (arith, h, k))
  asym r q (fewer_units h) (saves_more m n e a b l) = absurd (omega (arith, h, e))
  asym r q (fewer_units h) (smaller_text n e a b l) = absurd (omega (arith, h, e))
  asym r q (saves_more m n e a b l) (fewer_units k) = absurd (omega (arith, k, e))
  asym r q (saves_more m n e a b l) (saves_more m' n' e' a' b' l') =
      absurd (omega (arith, saved_once r m n' a b', saved_once q n m' b a', l, l'))
  asym r q (saves_more m n e a b l) (smaller_text n' e' a' b' l') =
      absurd (omega (arith, saved_once r m n' a b', saved_once q n n' b a', l))
  asym r q (smaller_text n e a b l) (fewer_units k) = absurd (omega (arith, k, e))
  asym r q (smaller_text n e a b l) (saves_more m' n' e' a' b' l') =
      absurd (omega (arith, saved_once q n m' b a', saved_once r n n' a b', l'))
  asym r q (smaller_text n e a b l) (smaller_text n' e' a' b' l') = start_asym way r q l l'

  onward : (r q p : List ℕ) → Precedes way A S r q → Precedes way A S q p → Precedes way A S r p
  onward r q p (fewer_units h) (fewer_units k) = fewer_units (omega (arith, h, k))
  onward r q p (fewer_units h) (saves_more m n e a b l) = fewer_units (omega (arith, h, e))
  onward r q p (fewer_units h) (smaller_text n e a b l) = fewer_units (omega (arith, h, e))
  onward r q p (saves_more m n e a b l) (fewer_units k) = fewer_units (omega (arith, k, e))
  onward r q p (saves_more m n e a b l) (saves_more m' n' e' a' b' l') =
      saves_more m n' (e ∙ e') a b' (omega (arith, l, l', saved_once q n m' b a'))
  onward r q p (saves_more m n e a b l) (smaller_text n' e' a' b' l') =
      saves_more m n' (e ∙ e') a b' (omega (arith, l, saved_once q n n' b a'))
  onward r q p (smaller_text n e a b l) (fewer_units k) = fewer_units (omega (arith, k, e))
  onward r q p (smaller_text n e a b l) (saves_more m' n' e' a' b' l') =
      saves_more n n' (e ∙ e') a b' (omega (arith, l', saved_once q n m' b a'))
  onward r q p (smaller_text n e a b l) (smaller_text n' e' a' b' l') =
      smaller_text n (e ∙ e') a (subst (Saved way A S p) (sym (saved_once q n n' b a')) b')
      ((start_total way).trans r q p l l')

  abbrev IsOrdered : TextList → Type 0
  IsOrdered Q = (k : ℕ) → k + 1 < length Q
      → Precedes way A S (slice_index_or Q k []) (slice_index_or Q (k + 1) [])

  ordered_tail : (q : List ℕ) (Q : TextList) → IsOrdered (q ∷ Q) → IsOrdered Q
  ordered_tail q Q h k lt =
      let e : suc k + 1 ≡ suc (k + 1) = omega arith in
      subst (λ j. Precedes way A S (slice_index_or Q k []) (slice_index_or (q ∷ Q) j [])) e
      (h (suc k) (omega (arith, lt)))

  heads : (q : List ℕ) (Q : TextList) → IsOrdered (q ∷ Q) → (x : List ℕ) → Contains Q x
      → Precedes way A S q x
  heads q [] h x c = absurd (omega (arith, c.1))
  heads q (p ∷ Q) h x c = elim (cons_cases p Q x c) [
    | inl e ↦ subst (Precedes way A S q) e (h 0 (omega arith))
    | inr d ↦ onward q p x (h 0 (omega arith)) (heads p Q (ordered_tail q (p ∷ Q) h) x d)
  ]

  same_first : (q r : List ℕ) (Q R : TextList) → Contains (r ∷ R) q → Contains (q ∷ Q) r
      → IsOrdered (q ∷ Q) → IsOrdered (r ∷ R) → q ≡ r
  same_first q r Q R c d h k = elim (cons_cases r R q c) [
    | inl e ↦ sym e
    | inr c' ↦ elim (cons_cases q Q r d) [
      | inl e ↦ e
      | inr d' ↦ absurd (asym q r (heads q Q h r d') (heads r R k q c'))
    ]
  ]

  same_rest : (q r : List ℕ) (Q R : TextList) → q ≡ r → EachOnce (q ∷ Q)
      → ((s : List ℕ) → Contains (q ∷ Q) s → Contains (r ∷ R) s) → (s : List ℕ) → Contains Q s
      → Contains R s
  same_rest q r Q R e d f s c =
      let h = f s (Contains-append_right (q ∷ []) Q s c) in elim (cons_cases r R s h) [
        | inl g ↦ absurd (d.0 (subst (Contains Q) (sym (e ∙ g)) c))
        | inr g ↦ g
      ]

  one_order : (Q R : TextList) → EachOnce Q → EachOnce R
      → ((s : List ℕ) → Contains Q s → Contains R s) → ((s : List ℕ) → Contains R s → Contains Q s)
      → IsOrdered Q → IsOrdered R → Q ≡ R
  one_order [] [] d e f g h k = refl
  one_order [] (r ∷ R) d e f g h k = absurd (let c = g r (Contains-first r R) in omega (arith, c.1))
  one_order (q ∷ Q) [] d e f g h k = absurd (let c = f q (Contains-first q Q) in omega (arith, c.1))
  one_order (q ∷ Q) (r ∷ R) d e f g h k =
      let same = same_first q r Q R (f q (Contains-first q Q)) (g r (Contains-first r R)) h k in
      let rest = one_order Q R d.1 e.1 (same_rest q r Q R same d f)
      (same_rest r q R Q (sym same) e g) (ordered_tail q Q h) (ordered_tail r R k) in
      λ i. same i ∷ rest i

  among : (b : TextList) (r : List ℕ) (y : TextList) (q : List ℕ) → q ≡ r → Contains (b ++ r ∷ y) q
  among b r y q g = Contains-append_right b (r ∷ y) q (0, omega arith, sym g)

  one_front : (Q a b x y : TextList) (r : List ℕ) → EachOnce Q → Q ≡ a ++ r ∷ x → Q ≡ b ++ r ∷ y
      → a ≡ b
  one_front [] [] b x y r d e f = (let n : [] ≡ r ∷ x = e in cc)
  one_front [] (u ∷ a) b x y r d e f = (let n : [] ≡ u ∷ (a ++ r ∷ x) = e in cc)
  one_front (q ∷ Q) [] [] x y r d e f = refl
  one_front (q ∷ Q) [] (v ∷ b) x y r d e f =
      let g : q ≡ r = cc in
      let h : Q ≡ b ++ r ∷ y = cc in
      absurd (d.0 (subst (λ l. Contains l q) (sym h) (among b r y q g)))
  one_front (q ∷ Q) (u ∷ a) [] x y r d e f =
      let g : q ≡ r = cc in
      let h : Q ≡ a ++ r ∷ x = cc in
      absurd (d.0 (subst (λ l. Contains l q) (sym h) (among a r x q g)))
  one_front (q ∷ Q) (u ∷ a) (v ∷ b) x y r d e f =
      let g : Q ≡ a ++ r ∷ x = cc in
      let h : Q ≡ b ++ r ∷ y = cc in
      let k : u ≡ v = cc in
      λ i. k i ∷ one_front Q a b x y r d.1 g h i

  closes_once : (Q : TextList) (r : List ℕ) (c d : ℕ) → EachOnce Q → ClosesAt Q r c
      → ClosesAt Q r d
      → c ≡ d
  closes_once Q r c d u h k = h.place
      ∙ ap (λ l. sum_by size l + size r) (one_front Q h.before k.before h.after k.after r u h.is
      k.is) ∙ sym k.place

  off_once : (texts : All IsUtf8 S) (Q : TextList) (u : EachOnce Q) (s : List ℕ) (j k : ℕ)
      → Off way S Q s j → Off way S Q s k → j ≡ k
  off_once texts Q u _ _ _ off_empty off_empty = refl
  off_once texts Q u _ _ _ off_empty (off_within l h f) = absurd (omega (arith, l.nonempty))
  off_once texts Q u _ _ _ (off_within l h f) off_empty = absurd (omega (arith, l.nonempty))
  off_once texts Q u _ _ _ (off_within {s} {r} {k = j} {c} l h f) (off_within {r = q} {k} {c =
      d} m g e) =
      let same : r ≡ q = one_container way S texts s r q l.container m.container in
      let close : c ≡ d = closes_once Q r c d u h (subst (λ z. ClosesAt Q z d) (sym same) g) in
      omega (arith, f, e, close)

-- the records in their order
pub one_list : (way : Packing) {A : List ℕ → Type 0} (S Q R : TextList) {us vs : List ℕ}
    → IsPool way A S Q us → IsPool way A S R vs → Q ≡ R
one_list way {A} S Q R p q =
    one_order way A S Q R p.records.once q.records.once
    (λ s c. (q.records.just s).1 ((p.records.just s).0 c))
    (λ s c. (p.records.just s).1 ((q.records.just s).0 c)) p.ordered q.ordered

-- the units, and where each text stands
pub one_pool : (way : Packing) {A : List ℕ → Type 0} (S : TextList) (us vs : List ℕ)
    (offset place : List ℕ → Option ℕ) → IsPlanAmong way A S us offset
    → IsPlanAmong way A S vs place → (us ≡ vs) × (offset ≡ place)
one_pool way {A} S us vs offset place p q = (
  p.pool.units ∙ ap (λ Q. 0 ∷ flat_map record_units Q) records
      ∙ sym q.pool.units,
  λ i s. at s i,
)
  where
    records : p.records ≡ q.records
    records = one_list way S p.records q.records p.pool q.pool

    by : (s : List ℕ) (a b : Option ℕ) → MatchOption a (Contains S s → ⊥) (λ k. Contains S s
        × Off way S p.records s k) → MatchOption b (Contains S s → ⊥) (λ k. Contains S s
        × Off way S q.records s k) → a ≡ b
    by s None None h k = refl
    by s None (Some n) h k = absurd (h k.0)
    by s (Some n) None h k = absurd (k h.0)
    by s (Some n) (Some m) h k = ap Some (off_once way A S p.texts p.records p.pool.records.once s n
        m h.1 (subst (λ Q. Off way S Q s m) (sym records) k.1))

    at : (s : List ℕ) → offset s ≡ place s
    at s = by s (offset s) (place s) (p.offsets s) (q.offsets s)

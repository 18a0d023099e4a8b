-- What all copies that lie in a record take: by the texts, and by the strings one after the other.
use Rattle.std.proofs.Common.{◌≡◌, ℕ, zero, suc, ◌+◌, ◌<◌, ◌≤◌, List, [], ◌∷◌, length, get_or, take}
use Rattle.std.proofs.Common.{Bool, true, false, cond, ◌↔◌, refl, sym, ◌∙◌, ap, subst, arith}
use Rattle.std.proofs.Common.{true≢false}
use Rattle.std.specs.Prelude.{nat_eq}
use Rattle.std.specs.List.{All, Contains, sum_by}
use Rattle.std.specs.Str.{bytes_eq, IsUtf8}
use Rattle.std.specs.Cmp.Lexicographic.{bytes_decides}
use Rattle.std.proofs.lemmas.Bool.{eqb-true, eq-eqb}
use Rattle.std.proofs.Common.{get_or-set_other, get_or-set_same}
use Rattle.std.specs.Prelude.{slice_set}
use Rattle.std.proofs.lemmas.List.Sums.{sum_by-cons}
use Rattle.resb_format.specs.Units.{size}
use Rattle.resb_pool.specs.Records.{IsRecord, EachOnce}
use Rattle.resb_pool.specs.Container.{IsContainer}
use Rattle.resb_pool.specs.Pool.{SizeIn, size_none, size_here, size_elsewhere}
use Rattle.resb_pool.specs.Inner.Placing.{indexed_text, copies, AreContainers, LiesAt}
use Rattle.resb_pool.specs.Inner.Placing.{lying_in}
use Rattle.resb_pool.specs.declared.measure.Measure.{Measure}
use Rattle.resb_pool.specs.declared.packing.Packing.{Packing}
use Rattle.resb_pool.proofs.Distinct.{has_text, index_of, one_index}
use Rattle.resb_pool.proofs.Sizes.{copy, copy_same, copy_other, copies-cons}
use Rattle.resb_pool.proofs.PlacingLemmas.{container_from}
use Rattle.resb_pool.proofs.Sharing.{one_container}
use Rattle.resb_pool.proofs.TextLists.{TextList}
use Rattle.resb_pool.proofs.Numbers.{more_than_zero}

-- n, where a text that lies in h lies in q
abbrev if_in : ℕ → ℕ → ℕ → ℕ
if_in h q n = cond (nat_eq h q) n 0

if_in_zero : (h q n : ℕ) → n ≡ 0 → if_in h q n ≡ 0
if_in_zero h q n e = by (nat_eq h q)
  where
    by : (b : Bool) → cond b n 0 ≡ 0
    by true = e
    by false = refl

if_in_le : (h q n : ℕ) → if_in h q n ≤ n
if_in_le h q n = by (nat_eq h q)
  where
    by : (b : Bool) → cond b n 0 ≤ n
    by true = omega arith
    by false = omega arith

if_in_sum : (h q m n k : ℕ) → k ≡ m + n → if_in h q k ≡ if_in h q m + if_in h q n
if_in_sum h q m n k e = by (nat_eq h q)
  where
    by : (b : Bool) → cond b k 0 ≡ cond b m 0 + cond b n 0
    by true = e
    by false = refl

-- what the copies among ss of the texts that lie in q take
abbrev share : ℕ → List ℕ → TextList → TextList → ℕ
share q [] T ss = 0
share q (h ∷ hs) [] ss = 0
share q (h ∷ hs) (t ∷ T) ss = if_in h q (copies ss t) + share q hs T ss

-- the same of one string
abbrev part : ℕ → List ℕ → TextList → List ℕ → ℕ
part q [] T s = 0
part q (h ∷ hs) [] s = 0
part q (h ∷ hs) (t ∷ T) s = if_in h q (copy t s) + part q hs T s

share_all : (q : ℕ) (S : TextList) (hs : List ℕ) (ms : List Measure) (T : TextList)
    → length hs ≡ length T → length ms ≡ length T
    → ((i : ℕ) (d : Measure) → i < length T → (get_or ms i d).total ≡ copies S (indexed_text T i))
    → lying_in hs ms q ≡ share q hs T S
share_all q S [] ms T e f t = refl
share_all q S (h ∷ hs) [] [] e f t = refl
share_all q S (h ∷ hs) (m ∷ ms) [] e f t = absurd (omega (arith, f))
share_all q S (h ∷ hs) [] (x ∷ T) e f t = absurd (omega (arith, f))
share_all q S (h ∷ hs) (m ∷ ms) (x ∷ T) e f t =
    let rest = share_all q S hs ms T (omega (arith, e)) (omega (arith, f))
    (λ i d l. t (suc i) d (omega (arith, l))) in
    let first : if_in h q m.total ≡ if_in h q (copies S x) = ap (if_in h q) (t 0 m (omega arith)) in
    omega (arith, first, rest)

share_none : (q : ℕ) (hs : List ℕ) (T : TextList) → share q hs T [] ≡ 0
share_none q [] T = refl
share_none q (h ∷ hs) [] = refl
share_none q (h ∷ hs) (t ∷ T) = omega (arith, if_in_zero h q 0 refl, share_none q hs T)

share-cons : (q : ℕ) (hs : List ℕ) (T : TextList) (s : List ℕ) (ss : TextList)
    → share q hs T (s ∷ ss) ≡ part q hs T s + share q hs T ss
share-cons q [] T s ss = refl
share-cons q (h ∷ hs) [] s ss = refl
share-cons q (h ∷ hs) (t ∷ T) s ss =
    omega (
      arith,
      if_in_sum h q (copy t s) (copies ss t) (copies (s ∷ ss) t) (copies-cons s t ss),
      share-cons q hs T s ss,
    )

part_none : (q : ℕ) (hs : List ℕ) (T : TextList) (s : List ℕ) → (Contains T s → ⊥)
    → part q hs T s ≡ 0
part_none q [] T s f = refl
part_none q (h ∷ hs) [] s f = refl
part_none q (h ∷ hs) (t ∷ T) s f =
    omega (
      arith,
      if_in_zero h q (copy t s) (copy_other t s (λ e. f (0, omega arith, e))),
      part_none q hs T s (λ c. f (suc c.0, omega (arith, c.1), c.2)),
    )

-- a text takes part in the record in which it lies
part_at : (q : ℕ) (hs : List ℕ) (T : TextList) (s : List ℕ) (j : ℕ)
    → length hs ≡ length T → EachOnce T → j < length T → indexed_text T j ≡ s
    → part q hs T s ≡ if_in (get_or hs j 0) q (size s)
part_at q [] T s j e u l k = absurd (omega (arith, e, l))
part_at q (h ∷ hs) [] s j e u l k = absurd (omega (arith, l))
part_at q (h ∷ hs) (t ∷ T) s zero e u l k =
    let first : if_in h q (copy t s) ≡ if_in h q (size s) = ap (if_in h q) (copy_same t s k) in
    omega (arith, first, part_none q hs T s (λ c. u.0 (subst (Contains T) (sym k) c)))
part_at q (h ∷ hs) (t ∷ T) s (suc j) e u l k =
    let apart : t ≡ s → ⊥ = λ g. u.0 (subst (Contains T) (k
    ∙ sym g) (has_text T j (omega (arith, l)))) in
    omega (
      arith,
      if_in_zero h q (copy t s) (copy_other t s apart),
      part_at q hs T s j (omega (arith, e)) u.1 (omega (arith, l)) k,
    )

module _ (way : Packing) (S T : TextList) (texts : All IsUtf8 S) (once : EachOnce T)
    (same : (s : List ℕ) → Contains T s ↔ Contains S s) (hs : List ℕ)
    (placed : AreContainers way T hs)
    (ms : List Measure) (len : length ms ≡ length T)
    (totals : (i : ℕ) (d : Measure) → i < length T
    → (get_or ms i d).total ≡ copies S (indexed_text T i)) where
  module _ (q : ℕ) (l : q < length T) (r : IsRecord T (indexed_text T q)) where
    shares : (ss : TextList) → ((s : List ℕ) → Contains ss s → Contains T s)
        → SizeIn way S (indexed_text T q) ss (share q hs T ss)
    shares [] h = subst (SizeIn way S (indexed_text T q) []) (sym (share_none q hs T)) size_none
    shares (s ∷ ss) h =
        let f = index_of T s (h s (0, omega arith, refl)) in
        let j : ℕ = f.0 in
        let at = placed.lies j f.1 in
        let rest = shares ss (λ z c. h z (suc c.0, omega (arith, c.1), c.2)) in
        let e : share q hs T (s ∷ ss) ≡ if_in (get_or hs j 0) q (size s) + share q hs T ss =
        omega (arith, share-cons q hs T s ss, part_at q hs T s j placed.len once f.1 f.2) in
        subst (SizeIn way S (indexed_text T q) (s
        ∷ ss)) (sym e) (by f at rest (nat_eq (get_or hs j 0) q)
        refl)
      where
        by : (f : (i : ℕ) × (i < length T) × (indexed_text T i ≡ s))
            → LiesAt way T f.0 (get_or hs f.0 0)
            → SizeIn way S (indexed_text T q) ss (share q hs T ss)
            → (b : Bool) → nat_eq (get_or hs f.0 0) q ≡ b
            → SizeIn way S (indexed_text T q) (s ∷ ss) (cond b (size s) 0 + share q hs T ss)
        by f at rest true g =
            let k : (get_or hs f.0 0) ≡ q = eqb-true (get_or hs f.0 0) q g in
            let full : (length (indexed_text T f.0) ≡ 0
            → ⊥) = λ z. (let i : f.0 ≡ q = sym (at.empty z)
            ∙ k in omega (arith, r.nonempty, z, ap (λ n. length (indexed_text T n)) i)) in
            let pos : 0 < length (indexed_text T f.0) = more_than_zero
            (length (indexed_text T f.0)) full in
            let c : IsContainer way T s (indexed_text T q) =
            subst (λ z. IsContainer way T z (indexed_text T q)) f.2
            (subst (λ n. IsContainer way T (indexed_text T f.0) (indexed_text T n)) k
            (at.container pos)) in
            size_here (record {
              nonempty = subst (λ (z : List ℕ). 0 < length z) f.2 pos;
              container =
                  container_from T S same way s (indexed_text T q) c;
            }) rest
        by f at rest false g = subst (SizeIn way S (indexed_text T q) (s
            ∷ ss)) (omega arith) (size_elsewhere
            (λ m.
            let pos : 0 < length (indexed_text T f.0) =
            subst (λ (z : List ℕ). 0 < length z) (sym f.2) m.nonempty in
            let c : IsContainer way S s (indexed_text T (get_or hs f.0 0)) =
            container_from T S same way s (indexed_text T (get_or hs f.0 0))
            (subst (λ z. IsContainer way T z (indexed_text T (get_or hs f.0 0))) f.2
            (at.container pos)) in
            let k : (get_or hs f.0 0) ≡ q =
            one_index T (get_or hs f.0 0) q once at.within l
            (one_container way S texts s (indexed_text T (get_or hs f.0 0))
            (indexed_text T q) c
            m.container) in
            true≢false (sym (eq-eqb (get_or hs f.0 0) q k) ∙ g))
            rest)

    pub sized : SizeIn way S (indexed_text T q) S (lying_in hs ms q)
    sized = subst (SizeIn way S (indexed_text T q) S)
        (sym (share_all q S hs ms T placed.len len totals))
        (shares S (λ s c. (same s).1 c))

-- distinct texts have no more copies than there are strings
none_copied : (T : TextList) (s : List ℕ) → (Contains T s → ⊥) → sum_by (λ t. copy t s) T ≡ 0
none_copied [] s f = refl
none_copied (t ∷ T) s f =
    omega (
      arith,
      sum_by-cons (λ (z : List ℕ). copy z s) t T,
      copy_other t s (λ e. f (0, omega arith, e)),
      none_copied T s (λ c. f (suc c.0, omega (arith, c.1), c.2)),
    )

once_copied : (T : TextList) (s : List ℕ) → EachOnce T → sum_by (λ t. copy t s) T ≤ size s
once_copied [] s u = omega arith
once_copied (t ∷ T) s u = by (once_copied T s u.1) (bytes_eq t s) refl
  where
    cons : sum_by (λ (z : List ℕ). copy z s) (t ∷ T) ≡ copy t s + sum_by (λ (z : List ℕ). copy z s)
        T
    cons = sum_by-cons (λ (z : List ℕ). copy z s) t T

    by : sum_by (λ (z : List ℕ). copy z s) T ≤ size s → (b : Bool) → bytes_eq t s ≡ b
        → sum_by (λ (z : List ℕ). copy z s) (t ∷ T) ≤ size s
    by rest true e =
        let same : t ≡ s = (bytes_decides t s).0 e in
        omega (
          arith,
          cons,
          copy_same t s same,
          none_copied T s (λ c. u.0 (subst (Contains T) (sym same) c)),
        )
    by rest false e = omega (
      arith,
      cons,
      copy_other t s (λ q. true≢false (sym ((bytes_decides t s).1 q) ∙ e)),
      rest,
    )

copies_none_in : (T : TextList) → sum_by (copies []) T ≡ 0
copies_none_in [] = refl
copies_none_in (t ∷ T) = omega (arith, sum_by-cons (copies []) t T, copies_none_in T)

copies_one_more : (T : TextList) (s : List ℕ) (ss : TextList)
    → sum_by (copies (s ∷ ss)) T ≡ sum_by (λ t. copy t s) T + sum_by (copies ss) T
copies_one_more [] s ss = refl
copies_one_more (t ∷ T) s ss =
    omega (
      arith,
      sum_by-cons (copies (s ∷ ss)) t T,
      sum_by-cons (λ (z : List ℕ). copy z s) t T,
      sum_by-cons (copies ss) t T,
      copies-cons s t ss,
      copies_one_more T s ss,
    )

-- the copies of distinct texts take no more than all strings
pub copies_of_all : (T : TextList) (ss : TextList) → EachOnce T
    → sum_by (copies ss) T ≤ sum_by size ss
copies_of_all T [] u = omega (arith, copies_none_in T)
copies_of_all T (s ∷ ss) u = omega (
  arith,
  copies_one_more T s ss,
  once_copied T s u,
  copies_of_all T ss u,
  sum_by-cons size s ss,
)

pub totals_of : (S : TextList) (ms : List Measure) (T : TextList) → length ms ≡ length T
    → ((i : ℕ) (d : Measure) → i < length T → (get_or ms i d).total ≡ copies S (indexed_text T i))
    → sum_by (λ (m : Measure). m.total) ms ≡ sum_by (copies S) T
totals_of S [] [] e h = refl
totals_of S [] (t ∷ T) e h = absurd (omega (arith, e))
totals_of S (m ∷ ms) [] e h = absurd (omega (arith, e))
totals_of S (m ∷ ms) (t ∷ T) e h =
    omega (
      arith,
      sum_by-cons (λ (z : Measure). z.total) m ms,
      sum_by-cons (copies S) t T,
      h 0 m (omega arith),
      totals_of S ms T (omega (arith, e))
          (λ i d l. h (suc i) d (omega (arith, l))),
    )

pub lying_within : (hs : List ℕ) (ms : List Measure) (i : ℕ) (d : Measure) (q : ℕ)
    → i < length hs → i < length ms
    → lying_in (take i hs) (take i ms) q + (get_or ms i d).total
    ≤ sum_by (λ (m : Measure). m.total) ms
lying_within [] ms i d q l k = absurd (omega (arith, l))
lying_within (h ∷ hs) [] i d q l k = absurd (omega (arith, k))
lying_within (h ∷ hs) (m ∷ ms) zero d q l k =
    omega (arith, sum_by-cons (λ (z : Measure). z.total) m ms)
lying_within (h ∷ hs) (m ∷ ms) (suc i) d q l k =
    omega (
      arith,
      lying_within hs ms i d q (omega (arith, l)) (omega (arith, k)),
      sum_by-cons (λ (z : Measure). z.total) m ms,
      if_in_le h q m.total,
    )

-- what lies in q, with one text more
lying_more : (hs : List ℕ) (ms : List Measure) (i : ℕ) (d : Measure) (q : ℕ)
    → i < length hs → i < length ms
    → lying_in (take (suc i) hs) (take (suc i) ms) q
    ≡ lying_in (take i hs) (take i ms) q + if_in (get_or hs i 0) q (get_or ms i d).total
lying_more [] ms i d q l k = absurd (omega (arith, l))
lying_more (h ∷ hs) [] i d q l k = absurd (omega (arith, k))
lying_more (h ∷ hs) (m ∷ ms) zero d q l k = omega arith
lying_more (h ∷ hs) (m ∷ ms) (suc i) d q l k =
    omega (arith, lying_more hs ms i d q (omega (arith, l)) (omega (arith, k)))

-- one text more puts its total on the sum of its record
pub sum_put : (hs : List ℕ) (ms : List Measure) (i : ℕ) (d : Measure) (es : List ℕ) (n : ℕ)
    → i < length hs → i < length ms → get_or hs i 0 < length es
    → n ≡ get_or es (get_or hs i 0) 0 + (get_or ms i d).total
    → (q : ℕ) → get_or es q 0 ≡ lying_in (take i hs) (take i ms) q
    → get_or (slice_set es (get_or hs i 0) n) q 0 ≡ lying_in (take (i + 1) hs) (take (i + 1) ms) q
sum_put hs ms i d es n l m k e q was =
    let next : suc i ≡ i + 1 = omega arith in
    subst (λ z. get_or (slice_set es h n) q 0 ≡ lying_in (take z hs) (take z ms) q) next
    (by (nat_eq h q) refl)
  where
    h : ℕ
    h = get_or hs i 0

    total : ℕ
    total = (get_or ms i d).total

    by : (b : Bool) → nat_eq h q ≡ b
        → get_or (slice_set es h n) q 0 ≡ lying_in (take (suc i) hs) (take (suc i) ms) q
    by true f =
        let same = eqb-true h q f in
        let here : if_in h q total ≡ total = ap (λ b. cond {A = ℕ} b total 0) f in
        let read : get_or (slice_set es h n) q 0 ≡ n =
        ap (λ z. get_or (slice_set es h n) z 0) (sym same) ∙ get_or-set_same es h n 0 k in
        let there : get_or es h 0 ≡ get_or es q 0 = ap (λ z. get_or es z 0) same in
        omega (arith, read, e, there, was, lying_more hs ms i d q l m, here)
    by false f =
        let none : if_in h q total ≡ 0 = ap (λ b. cond {A = ℕ} b total 0) f in
        let read : get_or (slice_set es h n) q 0 ≡ get_or es q 0 =
        get_or-set_other es h q n 0 (λ s. true≢false (sym (eq-eqb h q (sym s)) ∙ f)) in
        omega (arith, read, was, lying_more hs ms i d q l m, none)

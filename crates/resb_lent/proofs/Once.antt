-- A text has one index in a pool, and a key stands first at one place.
use Rattle.std.proofs.Common.{ℕ, List, ◌≡◌, refl, sym, ap, subst, arith}
use Rattle.std.proofs.Common.{Option, Some, None}
use Rattle.std.specs.declared.cmp.Ordering.{Ordering}
use Rattle.std.specs.declared.cmp.Ordering.TheVariants.{Less, Equal, Greater}
use Rattle.resb_format.specs.Units.{size}
use Rattle.resb_pool.specs.Order.{suffix_cmp}
use Rattle.resb_pool.specs.Inner.Cuts.{chars_backwards, letters_backwards}
use Rattle.resb_pool.proofs.Cut.{key_same}
use Rattle.resb_pool.proofs.EndLetters.{letters_same}
use Rattle.resb_pool.proofs.SuffixOrder.{tied_same}
use Rattle.resb_lent.specs.Laws.{OneIndex, OnePlace}
use Rattle.resb_pool.specs.declared.packing.Packing.{Packing}
use Rattle.resb_pool.specs.declared.packing.Packing.TheVariants.{Plain, Compact}
use Rattle.resb_lent.specs.LentTexts.{IsLentRecord, LiesAt, lent_empty}
use Rattle.resb_lent.specs.LentTexts.{lent_within}
use Rattle.resb_lent.specs.LentBeside.{LiesBeside, LentBeside, LentTextBy, LendsTextBy}
use Rattle.resb_lent.specs.LentBeside.{beside_empty, beside_within}
use Rattle.resb_lent.proofs.Lying.{turned}

one_record : (block s r q : List ℕ) (at p : ℕ) → LiesAt block s r at → LiesAt block s q p → r ≡ q
one_record block s r q at p x y = by (suffix_cmp Plain r q) refl
  where
    by : (o : Ordering) → suffix_cmp Plain r q ≡ o → r ≡ q
    by Less e = absurd (x.greatest q p y.own y.holds
        (turned (chars_backwards r) (chars_backwards q) Less e))
    by Equal e = key_same r q x.own.stands.utf8 y.own.stands.utf8
        (tied_same (chars_backwards r) (chars_backwards q) e)
    by Greater e = absurd (y.greatest r at x.own x.holds e)

one_place_of : (block s r q : List ℕ) (at p : ℕ) → LiesAt block s r at → LiesAt block s q p
    → at ≡ p
one_place_of block s r q at p x y =
    let e = one_record block s r q at p x y in
    omega (
      arith,
      x.first p (subst (λ t. IsLentRecord block t p) (sym e) y.own),
      y.first at (subst (λ t. IsLentRecord block t at) e x.own),
    )

pub one_index : OneIndex
one_index block s i j (lent_empty z) (lent_empty y) = refl
one_index block s i j (lent_empty z) (lent_within some lies e) = absurd (omega (arith, some))
one_index block s i j (lent_within some lies e) (lent_empty z) = absurd (omega (arith, some))
one_index block s i j (lent_within {r = r} {at = at} some x e)
    (lent_within {r = q} {at = p} more y f) =
    omega (
      arith,
      e,
      f,
      ap size (one_record block s r q at p x y),
      one_place_of block s r q at p x y,
    )

pub one_place : OnePlace
one_place keys key a b x y = omega (arith, x.lowest b y.whole, y.lowest a x.whole)

-- so it is in a compact file
module _ (block : List ℕ) (S : List (List ℕ)) (s : List ℕ) where
  one_beside : (r q : List ℕ) (at p : ℕ) → LiesBeside block S s r at → LiesBeside block S s q p
      → r ≡ q
  one_beside r q at p x y = by (suffix_cmp Compact r q) refl
    where
      by : (o : Ordering) → suffix_cmp Compact r q ≡ o → r ≡ q
      by Less e = absurd (x.greatest q y.may y.holds
          (turned (letters_backwards Compact r) (letters_backwards Compact q) Less e))
      by Equal e = letters_same Compact r q x.own.stands.utf8 y.own.stands.utf8
          (tied_same (letters_backwards Compact r) (letters_backwards Compact q) e)
      by Greater e = absurd (y.greatest r x.may x.holds e)

  one_place_beside : (r q : List ℕ) (at p : ℕ) → LiesBeside block S s r at
      → LiesBeside block S s q p → at ≡ p
  one_place_beside r q at p x y =
      let e = one_beside r q at p x y in
      omega (
        arith,
        x.first p (subst (λ t. IsLentRecord block t p) (sym e) y.own),
        y.first at (subst (λ t. IsLentRecord block t at) e x.own),
      )

one_index_beside : (block : List ℕ) (S : List (List ℕ)) (s : List ℕ) (i j : ℕ)
    → LentBeside block S s i → LentBeside block S s j → i ≡ j
one_index_beside block S s i j (beside_empty z) (beside_empty y) = refl
one_index_beside block S s i j (beside_empty z) (beside_within some lies e) =
    absurd (omega (arith, some))
one_index_beside block S s i j (beside_within some lies e) (beside_empty z) =
    absurd (omega (arith, some))
one_index_beside block S s i j (beside_within {r = r} {at = at} some x e)
    (beside_within {r = q} {at = p} more y f) =
    omega (
      arith,
      e,
      f,
      ap size (one_beside block S s r q at p x y),
      one_place_beside block S s r q at p x y,
    )

-- in a file of either packing
pub one_index_by : (way : Packing) (block : List ℕ) (S : List (List ℕ)) (s : List ℕ) (i j : ℕ)
    → LentTextBy way block S s i → LentTextBy way block S s j → i ≡ j
one_index_by Plain block S s i j h k = one_index block s i j h k
one_index_by Compact block S s i j h k = one_index_beside block S s i j h k

-- what a pool has of a text is one answer
pub one_answer : (way : Packing) (block : List ℕ) (S : List (List ℕ)) (s : List ℕ) (o p : Option ℕ)
    → LendsTextBy way block S s o → LendsTextBy way block S s p → o ≡ p
one_answer way block S s None None h k = refl
one_answer way block S s None (Some j) h k = absurd (h j k)
one_answer way block S s (Some i) None h k = absurd (k i h)
one_answer way block S s (Some i) (Some j) h k = ap Some (one_index_by way block S s i j h k)

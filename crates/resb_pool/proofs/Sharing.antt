-- A text lies in one record, and what the texts that lie in a record take.
use Rattle.std.proofs.Common.{◌≡◌, ℕ, zero, suc, ◌<◌, ◌≤◌, List, [], length, Bool, true, false}
use Rattle.std.proofs.Common.{cond, refl, sym, ◌∙◌, ap, subst, arith, length-append, inl}
use Rattle.std.specs.List.{All, Contains}
use Rattle.std.specs.Str.{IsUtf8}
use Rattle.std.specs.Ordering.{ordering_reverse}
use Rattle.std.specs.declared.cmp.Ordering.{Ordering}
use Rattle.std.specs.declared.cmp.Ordering.TheVariants.{Less, Equal, Greater}
use Rattle.std.proofs.lemmas.List.Elements.{All-contains}
use Rattle.resb_format.specs.Units.{units, is_unmarked, marker, size, length_marker}
use Rattle.resb_pool.specs.Inner.Cuts.{letters_backwards}
use Rattle.resb_pool.specs.Order.{suffix_cmp}
use Rattle.resb_pool.specs.Container.{IsContainer, MayHold}
use Rattle.resb_pool.specs.declared.packing.Packing.{Packing}
use Rattle.resb_pool.specs.declared.packing.Packing.TheVariants.{Plain, Compact}
use Rattle.resb_pool.specs.Pool.{LiesIn, SizeIn, size_none, size_here, size_elsewhere}
use Rattle.resb_pool.specs.Records.{IsRecord}
use Rattle.resb_pool.proofs.SuffixOrder.{end_last_total, tied_same, extends_not_after}
use Rattle.resb_pool.proofs.EndLetters.{letters_same, letters_extend}
use Rattle.resb_pool.proofs.Least.{units_end}
use Rattle.resb_pool.proofs.TextLists.{TextList}
use Rattle.resb_pool.proofs.Numbers.{size_le}

module _ (way : Packing) (S : TextList) (texts : All IsUtf8 S) where
  pub one_container : (s r q : List ℕ) → IsContainer way S s r → IsContainer way S s q → r ≡ q
  one_container s r q a b =
      letters_same way r q (All-contains IsUtf8 S r texts a.own.given)
      (All-contains IsUtf8 S q texts b.own.given) (by (suffix_cmp way r q) refl)
    where
      by : (o : Ordering) → suffix_cmp way r q ≡ o
          → letters_backwards way r ≡ letters_backwards way q
      by Less e = absurd (a.greatest q b.own b.ends b.holds
          (end_last_total.antisymm (letters_backwards way q) (letters_backwards way r)
          ∙ ap ordering_reverse e))
      by Equal e = tied_same (letters_backwards way r) (letters_backwards way q) e
      by Greater e = absurd (b.greatest r a.own a.ends a.holds e)

-- a record is its own container
pub own_container : (way : Packing) (S : TextList) → All IsUtf8 S → (s : List ℕ) → IsRecord S s
    → IsContainer way S s s
own_container way S texts s own = record {
  own = own;
  ends = record { front = []; is = refl };
  holds = by way;
  greatest = λ q x y z. extends_not_after _ _
      (letters_extend way q s (All-contains IsUtf8 S q texts x.given)
      (All-contains IsUtf8 S s texts own.given) y);
}
  where
    by : (w : Packing) → MayHold w S s s
    by Plain = tt
    by Compact = inl refl

-- a record's own copy counts
pub own_size : (way : Packing) (S : TextList) (q : List ℕ) → LiesIn way S q q
    → (ss : TextList) (n : ℕ) → SizeIn way S q ss n
    → Contains ss q → size q ≤ n
own_size way S q l _ _ size_none c = absurd (omega (arith, c.1))
own_size way S q l _ _ (size_here {s = t} {ss} {n} k h) (zero, lt, is) = omega (arith, ap size is)
own_size way S q l _ _ (size_here {s = t} {ss} {n} k h) (suc j, lt, is) =
    omega (arith, own_size way S q l ss n h (j, omega arith, is))
own_size way S q l _ _ (size_elsewhere {s = t} {ss} {n} k h) (zero, lt, is) =
    absurd (k (subst (λ z. LiesIn way S z q) (sym is) l))
own_size way S q l _ _ (size_elsewhere {s = t} {ss} {n} k h) (suc j, lt, is) =
    own_size way S q l ss n h (j, omega arith, is)

-- a text takes no more than the record in which it lies
pub size_within : (way : Packing) (S : TextList) → All IsUtf8 S → (s r : List ℕ) → Contains S s
    → IsContainer way S s r → (IsRecord S s → r ≡ s) → 0 < length s → size s ≤ size r
size_within way S texts s r c k itself pos = by (is_unmarked s) refl
  where
    by : (b : Bool) → is_unmarked s ≡ b → size s ≤ size r
    by true e =
        let f = units_end r s (All-contains IsUtf8 S r texts k.own.given)
        (All-contains IsUtf8 S s texts c) k.ends in
        let m : length (marker s) ≡ 0 =
        ap (λ b. length (cond b [] (length_marker (length (units s))))) e in
        size_le (length (marker s)) (length (marker r)) (length (units s)) (length (units r)) m
        (omega (arith, ap length f, length-append (units k.ends.front) (units s)))
    by false e =
        let same : r ≡ s = itself (record { given = c; nonempty = pos; alone = inl e }) in
        omega (arith, ap size same)

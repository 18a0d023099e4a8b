-- Lists of bytes in their order: those that begin with a list stand in one run from it on.
use Rattle.std.proofs.Common.{◌≡◌, ℕ, ◌+◌, List, [], ◌∷◌, ◌++◌, Bool, true, false, ◌⊎◌, inl, inr}
use Rattle.std.proofs.Common.{refl, sym, ◌∙◌, ap, ◌<◌, ◌-◌, arith, length, get_or, reverse, drop}
use Rattle.std.proofs.Common.{min, take}
use Rattle.std.specs.Cmp.{nat_cmp_is}
use Rattle.std.proofs.lemmas.List.{get_or-reverse, drop_more, length-reverse, length-drop}
use Rattle.std.proofs.lemmas.List.{take_more_same}
use Rattle.std.specs.Ordering.{nat_cmp, ordering_then, ordering_reverse, is_lt, is_gt}
use Rattle.std.specs.declared.cmp.Ordering.{Ordering}
use Rattle.std.specs.declared.cmp.Ordering.TheVariants.{Less, Equal, Greater}
use Rattle.std.proofs.lemmas.Cmp.{nat_list_cmp_total, nat_cmp_total, ranked, by_ranked}
use Rattle.std.proofs.lemmas.Cmp.{tied_itself, upto}
use Rattle.std.proofs.lemmas.Map.Lookups.{exact_bytes}
use Rattle.std.proofs.lemmas.Bool.{cases_lt}
use Rattle.resb_tree.specs.Maps.{text_cmp}
use Rattle.resb_pool.specs.Inner.Extends.{Extends}

-- a stands before b
abbrev pub before : List ℕ → List ℕ → Bool
before a b = is_lt (text_cmp a b)

then_equal : (o p : Ordering) → o ≡ Equal → ordering_then o p ≡ p
then_equal o p e = rw e refl

then_less : (o p : Ordering) → o ≡ Less → ordering_then o p ≡ Less
then_less o p e = rw e refl

itself : (x : ℕ) (o : Ordering) → ordering_then (nat_cmp x x) o ≡ o
itself x o = then_equal (nat_cmp x x) o (tied_itself nat_cmp_total x)

turned : (o : Ordering) → is_lt (ordering_reverse o) ≡ is_gt o
turned Less = refl
turned Equal = refl
turned Greater = refl

pub before_turned : (a b : List ℕ) → before b a ≡ is_gt (text_cmp a b)
before_turned a b = ap is_lt (nat_list_cmp_total.antisymm b a) ∙ turned (text_cmp a b)

-- nothing stands before itself
pub not_itself : (a : List ℕ) → before a a ≡ false
not_itself a = ap is_lt (tied_itself nat_list_cmp_total a)

one_way : (o : Ordering) → is_lt o ≡ true → is_gt o ≡ false
one_way Less e = refl
one_way Equal e = cc
one_way Greater e = cc

-- of two lists, one at most stands before the other
pub not_both_ways : (a b : List ℕ) → before a b ≡ true → before b a ≡ false
not_both_ways a b e = before_turned a b ∙ one_way (text_cmp a b) e

-- where c isn't before b, nor b before a, c isn't before a
pub chained : (a b c : List ℕ) → before b a ≡ false → before c b ≡ false → before c a ≡ false
chained a b c e f = before_turned a c ∙ upto nat_list_cmp_total a b c (sym (before_turned a b) ∙ e)
    (sym (before_turned b c) ∙ f)

neither : (o : Ordering) → is_lt o ≡ false → is_gt o ≡ false → o ≡ Equal
neither Less e f = cc
neither Equal e f = refl
neither Greater e f = cc

-- two lists of which none stands before the other are the same
pub same_place : (a b : List ℕ) → before a b ≡ false → before b a ≡ false → a ≡ b
same_place a b e f = exact_bytes a b (neither (text_cmp a b) e (sym (before_turned a b) ∙ f))

-- a list that begins with another doesn't stand before it
pub longer_behind : (r x : List ℕ) → before (r ++ x) r ≡ false
longer_behind [] [] = refl
longer_behind [] (y ∷ x) = refl
longer_behind (z ∷ r) x = ap is_lt (itself z (text_cmp (r ++ x) r)) ∙ longer_behind r x

-- what doesn't stand before a list, and what begins with that one doesn't stand before, begins with
-- it too
pub run_between : (q r x : List ℕ) → before q r ≡ false → before (r ++ x) q ≡ false → Extends q r
run_between q [] x e f = record { rest = q; is = refl }
run_between [] (y ∷ r) x e f = cc
run_between (z ∷ q) (y ∷ r) x e f =
    by_ranked (z < y) (z ≡ y) (y < z) (nat_cmp z y) (ranked z y (nat_cmp z y) refl)
    (λ o h. absurd (wrong (nat_cmp z y) (text_cmp q r) o e))
    (λ o h.
    let same : z ≡ y = h in
    let k = run_between q r x (sym (ap is_lt (then_equal (nat_cmp z y) (text_cmp q r) o)) ∙ e)
    (sym (ap is_lt (ap (λ c. ordering_then (nat_cmp y c) (text_cmp (r ++ x) q)) same
    ∙ itself y (text_cmp (r ++ x) q))) ∙ f) in
    let g : z ∷ q ≡ y ∷ (r ++ k.rest) = (λ i. same i ∷ k.is i) in
    record { rest = k.rest; is = g })
    (λ o h. absurd (wrong (nat_cmp y z) (text_cmp (r ++ x) q)
    (nat_cmp_total.antisymm y z ∙ ap ordering_reverse o) f))
  where
    wrong : (o p : Ordering) → o ≡ Less → is_lt (ordering_then o p) ≡ false → ⊥
    wrong o p g h = cc (ap is_lt (then_less o p g), h)

-- two lists, where they are the same up to a place, and what stands at it
module _ (l r : List ℕ) (i : ℕ) (in_left : i < length l) (in_right : i < length r) where
  abbrev left : ℕ
  left = get_or l (length l - 1 - i) 0

  abbrev right : ℕ
  right = get_or r (length r - 1 - i) 0

  from_place : text_cmp (drop i (reverse l)) (drop i (reverse r))
      ≡ ordering_then (nat_cmp left right)
      (text_cmp (drop (i + 1) (reverse l)) (drop (i + 1) (reverse r)))
  from_place =
      let m : i < length (reverse l) = omega (arith, in_left, length-reverse l) in
      let n : i < length (reverse r) = omega (arith, in_right, length-reverse r) in
      (λ j. text_cmp (drop_more (reverse l) i 0 m j) (drop_more (reverse r) i 0 n j))
      ∙ (λ j. ordering_then
      (nat_cmp (get_or-reverse l i 0 in_left j) (get_or-reverse r i 0 in_right j))
      (text_cmp (drop (i + 1) (reverse l)) (drop (i + 1) (reverse r))))

  pub differ_here : (left ≡ right → ⊥)
      → text_cmp (drop i (reverse l)) (drop i (reverse r)) ≡ nat_cmp left right
  differ_here ne = from_place ∙ decided (nat_cmp left right) _ (λ e. ne (tied e))
    where
      decided : (o p : Ordering) → (o ≡ Equal → ⊥) → ordering_then o p ≡ o
      decided Less p n = refl
      decided Equal p n = absurd (n refl)
      decided Greater p n = refl

      tied : nat_cmp left right ≡ Equal → left ≡ right
      tied e = by_ranked (left < right) (left ≡ right) (right < left) (nat_cmp left right)
          (ranked left right (nat_cmp left right) refl) (λ o h. cc) (λ o h. h) (λ o h. cc)

  pub same_here : left ≡ right → text_cmp (drop i (reverse l)) (drop i (reverse r))
      ≡ text_cmp (drop (i + 1) (reverse l)) (drop (i + 1) (reverse r))
  same_here e = from_place ∙ then_equal (nat_cmp left right) _ (ap (nat_cmp left) (sym e)
      ∙ tied_itself nat_cmp_total left)

  -- and where they are the same there too, they are up to the next place
  pub same_front : take i (reverse l) ≡ take i (reverse r) → left ≡ right
      → take (i + 1) (reverse l) ≡ take (i + 1) (reverse r)
  same_front front e = take_more_same (reverse l) (reverse r) i 0
      (omega (arith, in_left, length-reverse l)) (omega (arith, in_right, length-reverse r)) front
      (get_or-reverse l i 0 in_left ∙ e ∙ sym (get_or-reverse r i 0 in_right))

-- behind the end of the shorter list the lengths decide
shorter : (a b : List ℕ) → (length a ≡ 0) ⊎ (length b ≡ 0)
    → text_cmp a b ≡ nat_cmp (length a) (length b)
shorter [] [] h = refl
shorter [] (y ∷ b) h = nat_cmp_is 0 (length (y ∷ b)) Less (omega arith)
shorter (x ∷ a) [] h = nat_cmp_is (length (x ∷ a)) 0 Greater (omega arith)
shorter (x ∷ a) (y ∷ b) (inl e) = absurd (omega (arith, e))
shorter (x ∷ a) (y ∷ b) (inr e) = absurd (omega (arith, e))

pub exhausted : (l r : List ℕ) (i : ℕ) → i ≡ min (length l) (length r)
    → text_cmp (drop i (reverse l)) (drop i (reverse r)) ≡ nat_cmp (length l) (length r)
exhausted l r i e =
    let a = drop i (reverse l) in
    let b = drop i (reverse r) in
    let m : length a ≡ length l - i =
    length-drop i (reverse l) ∙ ap (λ n. n - i) (length-reverse l) in
    let n : length b ≡ length r - i =
    length-drop i (reverse r) ∙ ap (λ n. n - i) (length-reverse r) in
    shorter a b (one (length l) (length r) (length a) (length b) i e m n)
    ∙ nat_cmp_is (length l) (length r) (nat_cmp (length a) (length b))
    (by_ranked (length a < length b) (length a ≡ length b) (length b < length a)
    (nat_cmp (length a) (length b)) (ranked (length a) (length b) _ refl)
    (λ o h. rw o (omega (arith, h, m, n))) (λ o h. rw o (omega (arith, h, m, n, e)))
    (λ o h. rw o (omega (arith, h, m, n))))
  where
    one : (x y a b i : ℕ) → i ≡ min x y → a ≡ x - i → b ≡ y - i → (a ≡ 0) ⊎ (b ≡ 0)
    one x y a b i e m n = elim (cases_lt x y) [
      | inl h ↦ inl (omega (arith, h, e, m))
      | inr h ↦ inr (omega (arith, h, e, n))
    ]

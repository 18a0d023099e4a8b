-- Texts whose first bytes differ compare as these do.
use Rattle.std.proofs.Common.{◌≡◌, ℕ, zero, suc, ◌+◌, ◌*◌, ◌<◌, ◌≤◌, List, [], ◌∷◌, get_or, false}
use Rattle.std.proofs.Common.{refl, sym, ◌∙◌, ap, subst, arith}
use Rattle.std.specs.List.{All}
use Rattle.std.specs.List.Sorted.{IsSorted}
use Rattle.std.specs.Cmp.{IsTotalOrder, IsStrictWeakOrder}
use Rattle.std.specs.Cmp.Lexicographic.{slice_cmp, nat_list_cmp_total}
use Rattle.std.specs.Ordering.{nat_cmp, ordering_then, ordering_reverse, is_lt}
use Rattle.std.specs.declared.cmp.Ordering.{Ordering}
use Rattle.std.specs.declared.cmp.Ordering.TheVariants.{Less}
use Rattle.std.proofs.lemmas.Cmp.{nat_cmp_total, tied_itself, then_total, on_total, back_total}
use Rattle.std.proofs.lemmas.List.MinMax.{ranks_by}
use Rattle.resb_pool.specs.Inner.Placing.{AreBytes, front_bytes, record_cmp, bytes_cmp}
use Rattle.resb_pool.specs.Inner.Placing.{fronted_cmp, IsRecordOf, record_text}
use Rattle.resb_pool.specs.declared.packing.Packing.TheVariants.{Plain}
use Rattle.resb_pool.specs.declared.records.Record.{Record}
use Rattle.resb_pool.proofs.Numbers.{ordering_then_less, ordering_then_equal, three_ways}
use Rattle.resb_pool.proofs.Numbers.{less_is_first, tied_first, ordering_then_not_before}

head_small : (x : ℕ) (xs : List ℕ) → AreBytes (x ∷ xs) → x < 256
head_small x xs h = h 0

tail_small : (x : ℕ) (xs : List ℕ) → AreBytes (x ∷ xs) → AreBytes xs
tail_small x xs h = λ i. h (suc i)

-- a smaller number in front stays smaller
less_kept : (n a b : ℕ) (xs ys : List ℕ) → AreBytes xs → a < b
    → front_bytes a n xs < front_bytes b n ys
less_kept zero a b xs ys s l = l
less_kept (suc n) a b [] [] s l = less_kept n (a * 256) (b * 256) [] [] s (omega (arith, l))
less_kept (suc n) a b [] (y ∷ ys) s l =
    less_kept n (a * 256) (b * 256 + y) [] ys s (omega (arith, l))
less_kept (suc n) a b (x ∷ xs) [] s l =
    less_kept n (a * 256 + x) (b * 256) xs [] (tail_small x xs s)
    (omega (arith, l, head_small x xs s))
less_kept (suc n) a b (x ∷ xs) (y ∷ ys) s l =
    less_kept n (a * 256 + x) (b * 256 + y) xs ys (tail_small x xs s)
    (omega (arith, l, head_small x xs s))

-- no bytes are the least
least : (n a b : ℕ) (ys : List ℕ) → a ≤ b → front_bytes a n [] ≤ front_bytes b n ys
least zero a b ys l = l
least (suc n) a b [] l = least n (a * 256) (b * 256) [] (omega (arith, l))
least (suc n) a b (y ∷ ys) l = least n (a * 256) (b * 256 + y) ys (omega (arith, l))

order_of : (n a : ℕ) (xs ys : List ℕ) → AreBytes xs → AreBytes ys
    → front_bytes a n xs < front_bytes a n ys → slice_cmp nat_cmp xs ys ≡ Less
order_of zero a xs ys s t l = absurd (omega (arith, l))
order_of (suc n) a [] [] s t l = order_of n (a * 256) [] [] s t l
order_of (suc n) a [] (y ∷ ys) s t l = refl
order_of (suc n) a (x ∷ xs) [] s t l =
    absurd (omega (arith, l, least n (a * 256) (a * 256 + x) xs (omega arith)))
order_of (suc n) a (x ∷ xs) (y ∷ ys) s t l =
    three_ways (slice_cmp nat_cmp (x ∷ xs) (y ∷ ys) ≡ Less) x y
    (λ e. ordering_then_less (nat_cmp x y) (slice_cmp nat_cmp xs ys) e)
    (λ e. ap (λ z. ordering_then (nat_cmp x z) (slice_cmp nat_cmp xs ys)) (sym e)
    ∙ ordering_then_equal (nat_cmp x x) (slice_cmp nat_cmp xs ys) (tied_itself nat_cmp_total x)
    ∙ order_of n (a * 256 + x) xs ys (tail_small x xs s) (tail_small y ys t)
    (subst (λ z. front_bytes (a * 256 + x) n xs < front_bytes (a * 256 + z) n ys) (sym e) l))
    (λ m. absurd (omega (
      arith,
      l,
      less_kept n (a * 256 + y) (a * 256 + x) ys xs (tail_small y ys t) (omega (arith, m)),
    )))

-- the first eight bytes one by one
pub front_is : (bs : List ℕ) → front_bytes 0 8 bs
    ≡ get_or bs 0 0 * 0x100_0000_0000_0000 + get_or bs 1 0 * 0x1_0000_0000_0000
    + get_or bs 2 0 * 0x100_0000_0000 + get_or bs 3 0 * 0x1_0000_0000
    + get_or bs 4 0 * 0x100_0000 + get_or bs 5 0 * 0x1_0000 + get_or bs 6 0 * 0x100
    + get_or bs 7 0
front_is [] = omega arith
front_is (a ∷ []) = omega arith
front_is (a ∷ b ∷ []) = omega arith
front_is (a ∷ b ∷ c ∷ []) = omega arith
front_is (a ∷ b ∷ c ∷ d ∷ []) = omega arith
front_is (a ∷ b ∷ c ∷ d ∷ e ∷ []) = omega arith
front_is (a ∷ b ∷ c ∷ d ∷ e ∷ f ∷ []) = omega arith
front_is (a ∷ b ∷ c ∷ d ∷ e ∷ f ∷ g ∷ []) = omega arith
front_is (a ∷ b ∷ c ∷ d ∷ e ∷ f ∷ g ∷ h ∷ bs) = omega arith

-- the first twelve bytes are the first eight and then four
pub next_is : (bs : List ℕ) → front_bytes 0 12 bs ≡ front_bytes 0 8 bs * 0x1_0000_0000
    + (get_or bs 8 0 * 0x100_0000 + get_or bs 9 0 * 0x1_0000 + get_or bs 10 0 * 0x100
    + get_or bs 11 0)
next_is [] = omega arith
next_is (a ∷ []) = omega arith
next_is (a ∷ b ∷ []) = omega arith
next_is (a ∷ b ∷ c ∷ []) = omega arith
next_is (a ∷ b ∷ c ∷ d ∷ []) = omega arith
next_is (a ∷ b ∷ c ∷ d ∷ e ∷ []) = omega arith
next_is (a ∷ b ∷ c ∷ d ∷ e ∷ f ∷ []) = omega arith
next_is (a ∷ b ∷ c ∷ d ∷ e ∷ f ∷ g ∷ []) = omega arith
next_is (a ∷ b ∷ c ∷ d ∷ e ∷ f ∷ g ∷ h ∷ []) = omega arith
next_is (a ∷ b ∷ c ∷ d ∷ e ∷ f ∷ g ∷ h ∷ i ∷ []) = omega arith
next_is (a ∷ b ∷ c ∷ d ∷ e ∷ f ∷ g ∷ h ∷ i ∷ j ∷ []) = omega arith
next_is (a ∷ b ∷ c ∷ d ∷ e ∷ f ∷ g ∷ h ∷ i ∷ j ∷ k ∷ []) = omega arith
next_is (a ∷ b ∷ c ∷ d ∷ e ∷ f ∷ g ∷ h ∷ i ∷ j ∷ k ∷ l ∷ bs) = omega arith

module _ (T : List (List ℕ)) where
  -- by texts alone
  abbrev text_cmp : Record → Record → Ordering
  text_cmp x y = slice_cmp nat_cmp (record_text T x) (record_text T y)

  fronted_total : IsTotalOrder (fronted_cmp T)
  fronted_total = then_total (on_total (λ (r : Record). r.unit_count) nat_cmp_total)
      (then_total (back_total (on_total (λ (r : Record). r.saved) nat_cmp_total))
      (then_total (on_total (λ (r : Record). r.front) nat_cmp_total)
      (then_total (on_total (λ (r : Record). r.next) nat_cmp_total)
      (on_total (record_text T) nat_list_cmp_total))))

  pub fronted_order : IsStrictWeakOrder (λ (x y : Record). is_lt (fronted_cmp T x y))
  fronted_order = ranks_by fronted_total (λ (r : Record). r)

  module _ (sums : List ℕ) where
    -- a text with greater first bytes isn't before
    greater : (n : ℕ) (x y : Record) → IsRecordOf T sums x → IsRecordOf T sums y
        → front_bytes 0 n (record_text T y) < front_bytes 0 n (record_text T x)
        → is_lt (text_cmp x y) ≡ false
    greater n x y h k l = ap is_lt (nat_list_cmp_total.antisymm (record_text T x) (record_text T y)
        ∙ ap ordering_reverse (order_of n 0 (record_text T y) (record_text T x) k.bytes h.bytes l))

    next_not_before : (x y : Record) → IsRecordOf T sums x → IsRecordOf T sums y
        → x.front ≡ y.front
        → is_lt (ordering_then (nat_cmp x.next y.next) (text_cmp x y)) ≡ false
        → is_lt (text_cmp x y) ≡ false
    next_not_before x y h k same e = three_ways (is_lt (text_cmp x y) ≡ false) x.next y.next
        (λ f. absurd (less_is_first (nat_cmp x.next y.next) (text_cmp x y) f e))
        (λ f. tied_first x.next y.next (text_cmp x y) f e)
        (λ m. greater 12 x y h k (omega (arith, m, same, h.next_is, k.next_is)))

    not_before : (x y : Record) → IsRecordOf T sums x → IsRecordOf T sums y
        → is_lt (bytes_cmp T x y) ≡ false → is_lt (text_cmp x y) ≡ false
    not_before x y h k e =
        let behind = ordering_then (nat_cmp x.next y.next) (text_cmp x y) in
        three_ways (is_lt (text_cmp x y) ≡ false) x.front y.front
        (λ f. absurd (less_is_first (nat_cmp x.front y.front) behind f e))
        (λ f. next_not_before x y h k f (tied_first x.front y.front behind f e))
        (λ m. greater 8 x y h k (omega (arith, m, h.front_is, k.front_is)))

    pub in_order : (rs : List Record) → All (IsRecordOf T sums) rs → IsSorted (fronted_cmp T) rs
        → IsSorted (record_cmp Plain T) rs
    in_order rs each up k d l m =
        let x = get_or rs (k + 1) d in let y = get_or rs k d in
        ordering_then_not_before (nat_cmp x.unit_count y.unit_count) _ _
        (ordering_then_not_before (nat_cmp y.saved x.saved) _ _
        (not_before x y (each (k + 1) d m) (each k d (omega (arith, m))))) (up k d l m)

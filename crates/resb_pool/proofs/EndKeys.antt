-- Rows whose keys differ compare as these do.
use Rattle.std.proofs.Common.{◌≡◌, ℕ, zero, suc, ◌+◌, ◌-◌, ◌*◌, ◌<◌, ◌≤◌, List, [], ◌∷◌}
use Rattle.std.proofs.Common.{get_or, length, inl, inr, false, refl, sym, ◌∙◌, ap, subst, arith}
use Rattle.std.proofs.Common.{reverse}
use Rattle.std.specs.List.{All}
use Rattle.std.specs.List.Sorted.{IsSorted}
use Rattle.std.specs.Cmp.{IsTotalOrder, IsStrictWeakOrder}
use Rattle.std.proofs.lemmas.List.MinMax.{ranks_by}
use Rattle.std.specs.Str.{IsUtf8}
use Rattle.std.specs.Ordering.{nat_cmp, ordering_then, ordering_reverse, is_lt}
use Rattle.std.specs.declared.cmp.Ordering.{Ordering}
use Rattle.std.specs.declared.cmp.Ordering.TheVariants.{Less, Equal}
use Rattle.std.proofs.lemmas.Cmp.{then_total, on_total, nat_cmp_total}
use Rattle.std.proofs.lemmas.Cmp.{tied_itself, ranked, by_ranked}
use Rattle.std.proofs.lemmas.Bool.{cases_lt}
use Rattle.std.proofs.lemmas.List.{get_or_past}
use Rattle.std.proofs.lemmas.List.Elements.{All-tail}
use Rattle.std.proofs.lemmas.Str.{IsUtf8-nil}
use Rattle.resb_pool.specs.Order.{end_last_cmp, suffix_cmp}
use Rattle.resb_pool.specs.Inner.Cuts.{chars_backwards, letters_backwards}
use Rattle.resb_pool.specs.Inner.Suffixes.{digits_backwards, key_of_digits, digits_bound}
use Rattle.resb_pool.specs.Inner.Suffixes.{keyed_cmp, row_cmp, last_digits}
use Rattle.resb_pool.specs.Inner.Suffixes.{row_key, row_text, IsKeyed, IsRowOf}
use Rattle.resb_pool.specs.Inner.Placing.{indexed_text}
use Rattle.resb_pool.specs.Inner.Ranks.{HaveCharLetters}
use Rattle.resb_pool.specs.declared.packing.Packing.{Packing}
use Rattle.resb_pool.specs.declared.packing.Packing.TheVariants.{Plain}
use Rattle.resb_pool.specs.declared.suffix_order.Row.{Row}
use Rattle.resb_pool.proofs.SuffixOrder.{end_last_total}
use Rattle.resb_pool.proofs.Digits.{IsSmall, small_key, digits_order}
use Rattle.resb_pool.proofs.Numbers.{ordering_then_less, ordering_then_equal}
use Rattle.resb_pool.proofs.Numbers.{three_ways, less_is_first, tied_first}

pub head_small : (x : ℕ) (xs : List ℕ) → IsSmall (x ∷ xs) → x < 255
head_small x xs h = h 0 x (omega arith)

pub tail_small : (x : ℕ) (xs : List ℕ) → IsSmall (x ∷ xs) → IsSmall xs
tail_small x xs h = All-tail (λ c. c < 255) x xs h

-- a smaller number in front stays smaller
pub less_kept : (n a b : ℕ) (xs ys : List ℕ) → IsSmall xs → IsSmall ys → a < b
    → key_of_digits a n xs < key_of_digits b n ys
less_kept zero a b xs ys s t l = l
less_kept (suc n) a b [] [] s t l =
    less_kept n (a * 256 + 255) (b * 256 + 255) [] [] s t
    (omega (arith, l))
less_kept (suc n) a b [] (y ∷ ys) s t l =
    less_kept n (a * 256 + 255) (b * 256 + y) [] ys s (tail_small y ys t)
    (omega (arith, l))
less_kept (suc n) a b (x ∷ xs) [] s t l =
    less_kept n (a * 256 + x) (b * 256 + 255) xs [] (tail_small x xs s) t
    (omega (arith, l, head_small x xs s))
less_kept (suc n) a b (x ∷ xs) (y ∷ ys) s t l =
    less_kept n (a * 256 + x) (b * 256 + y) xs ys (tail_small x xs s)
    (tail_small y ys t) (omega (arith, l, head_small x xs s))

bound_within : (k n : ℕ) → n + k ≡ 15 → digits_bound n ≤ 0x100_0000_0000_0000_0000_0000_0000_0000
bound_within zero n e =
    let last : n ≡ 15 = omega (arith, e) in
    subst (λ m. digits_bound m ≤ 0x100_0000_0000_0000_0000_0000_0000_0000) (sym last) (omega arith)
bound_within (suc k) n e =
    let next : digits_bound n * 256 ≤ 0x100_0000_0000_0000_0000_0000_0000_0000 =
    bound_within k (suc n) (omega (arith, e)) in
    omega (arith, next)

pub bound_fits : (n : ℕ) → n < 16 → digits_bound n ≤ 0x100_0000_0000_0000_0000_0000_0000_0000
bound_fits n l = bound_within (15 - n) n (omega (arith, l))

-- a digit more
pub bound_more : (left a d : ℕ) → 0 < left → left ≤ 16 → a < digits_bound (16 - left) → d < 256
    → a * 256 + d < digits_bound (16 - (left - 1))
bound_more left a d p q l m =
    let n : 16 - (left - 1) ≡ suc (16 - left) = omega (arith, p, q) in
    let e : digits_bound (16 - (left - 1)) ≡ digits_bound (16 - left) * 256 = ap digits_bound n in
    omega (arith, e, l, m)

pub next_digit : (left a d : ℕ) (ds : List ℕ) → 0 < left
    → key_of_digits (a * 256 + d) (left - 1) ds ≡ key_of_digits a left (d ∷ ds)
next_digit zero a d ds p = absurd (omega (arith, p))
next_digit (suc n) a d ds p =
    let e : suc n - 1 ≡ n = omega arith in ap (λ k. key_of_digits (a * 256 + d) k ds) e

pub no_digit : (left a d : ℕ) (ds : List ℕ) → left ≡ 0
    → key_of_digits a left ds ≡ key_of_digits a left (d ∷ ds)
no_digit zero a d ds p = refl
no_digit (suc n) a d ds p = absurd (omega (arith, p))

-- the end's digit is as good as none
pub end_digit : (left a : ℕ) → key_of_digits a left (255 ∷ []) ≡ key_of_digits a left []
end_digit zero a = refl
end_digit (suc n) a = refl

order_of : (n a : ℕ) (xs ys : List ℕ) → IsSmall xs → IsSmall ys
    → key_of_digits a n xs < key_of_digits a n ys → end_last_cmp xs ys ≡ Less
order_of zero a xs ys s t l = absurd (omega (arith, l))
order_of (suc n) a [] [] s t l = order_of n (a * 256 + 255) [] [] s t l
order_of (suc n) a [] (y ∷ ys) s t l =
    absurd (omega (
      arith,
      l,
      less_kept n (a * 256 + y) (a * 256 + 255) ys []
          (tail_small y ys t) s (omega (arith, head_small y ys t)),
    ))
order_of (suc n) a (x ∷ xs) [] s t l = refl
order_of (suc n) a (x ∷ xs) (y ∷ ys) s t l =
    three_ways (end_last_cmp (x ∷ xs) (y ∷ ys) ≡ Less) x y
    (λ e. ordering_then_less (nat_cmp x y) (end_last_cmp xs ys) e)
    (λ e. ap (λ z. ordering_then (nat_cmp x z) (end_last_cmp xs ys)) (sym e)
    ∙ ordering_then_equal (nat_cmp x x) (end_last_cmp xs ys) (tied_itself nat_cmp_total x)
    ∙ order_of n (a * 256 + x) xs ys (tail_small x xs s) (tail_small y ys t)
    (subst (λ z. key_of_digits (a * 256 + x) n xs < key_of_digits (a * 256 + z) n ys) (sym e)
    l))
    (λ m. absurd (omega (
      arith,
      l,
      less_kept n (a * 256 + y) (a * 256 + x) ys xs
          (tail_small y ys t) (tail_small x xs s) (omega (arith, m)),
    )))

-- texts of which the first digits differ compare as these do
pub digits_tell : (s t : List ℕ) → IsUtf8 s → IsUtf8 t → last_digits s < last_digits t
    → suffix_cmp Plain s t ≡ Less
digits_tell s t u v l = digits_order (chars_backwards s) (chars_backwards t)
    (order_of 16 0 (digits_backwards s) (digits_backwards t) (small_key s u) (small_key t v) l)

-- and so does what tells which of their digits are greater
pub told_by_digits : (s t : List ℕ) → IsUtf8 s → IsUtf8 t → (o : Ordering)
    → o ≡ nat_cmp (last_digits s) (last_digits t) → (o ≡ Equal → ⊥) → o ≡ suffix_cmp Plain s t
told_by_digits s t u v o is ne =
    let m = last_digits s in
    let n = last_digits t in
    by_ranked (m < n) (m ≡ n) (n < m) (nat_cmp m n) (ranked m n (nat_cmp m n) refl)
    (λ e l. is ∙ e ∙ sym (digits_tell s t u v l))
    (λ e l. absurd (ne (is ∙ e)))
    (λ e l. is ∙ e ∙ sym (end_last_total.antisymm (chars_backwards s) (chars_backwards t)
    ∙ ap ordering_reverse (digits_tell t s v u l)))

-- each text, and the empty one where there is none
pub text_utf8 : (T : List (List ℕ)) (i : ℕ) → All IsUtf8 T → IsUtf8 (indexed_text T i)
text_utf8 T i u = elim (cases_lt i (length T)) [
  | inl l ↦ u i [] l
  | inr m ↦ subst IsUtf8 (sym (get_or_past T i [] m)) IsUtf8-nil
]

module _ (T : List (List ℕ)) where
  keyed_total : IsTotalOrder (keyed_cmp T)
  keyed_total = then_total (on_total (λ (r : Row). r.last) nat_cmp_total)
      (then_total (on_total (λ (r : Row). r.before) nat_cmp_total)
      (on_total (λ (r : Row). chars_backwards (row_text T r)) end_last_total))

  pub keyed_order : IsStrictWeakOrder (λ (x y : Row). is_lt (keyed_cmp T x y))
  keyed_order = ranks_by keyed_total (λ (r : Row). r)

  module _ (utf8 : All IsUtf8 T) where
    -- the greater number stands after the other
    after_too : (x y : Row) → IsKeyed T x → IsKeyed T y → row_key y < row_key x
        → is_lt (row_cmp Plain T x y) ≡ false
    after_too x y h k m =
        let s = row_text T x in
        let t = row_text T y in
        ap is_lt (end_last_total.antisymm (chars_backwards s) (chars_backwards t)
        ∙ ap ordering_reverse (digits_tell t s (text_utf8 T y.index utf8)
        (text_utf8 T x.index utf8) (omega (arith, m, h.key_is, k.key_is))))

    before_too : (x y : Row) → IsKeyed T x → IsKeyed T y → is_lt (keyed_cmp T x y) ≡ false
        → is_lt (row_cmp Plain T x y) ≡ false
    before_too x y h k e =
        let texts = row_cmp Plain T x y in
        let second = ordering_then (nat_cmp x.before y.before) texts in
        three_ways (is_lt texts ≡ false) x.last y.last
        (λ f. absurd (less_is_first (nat_cmp x.last y.last) second f e))
        (λ f. three_ways (is_lt texts ≡ false) x.before y.before
        (λ g. absurd (less_is_first (nat_cmp x.before y.before) texts g
        (tied_first x.last y.last second f e)))
        (λ g. tied_first x.before y.before texts g (tied_first x.last y.last second f e))
        (λ m. after_too x y h k (omega (arith, m, f))))
        (λ m. after_too x y h k (omega (arith, m, h.small, k.small)))

    pub in_suffix_order : (rows : List Row) → All (IsRowOf T) rows → IsSorted (keyed_cmp T) rows
        → IsSorted (row_cmp Plain T) rows
    in_suffix_order rows each up k d l m =
        before_too (get_or rows (k + 1) d) (get_or rows k d) (each (k + 1) d m).keyed
        (each k d (omega (arith, m))).keyed (up k d l m)

-- by all letters
pub letters_order : (way : Packing) (T : List (List ℕ))
    → IsStrictWeakOrder (λ (x y : Row). is_lt (row_cmp way T x y))
letters_order way T = ranks_by end_last_total (λ (r : Row). letters_backwards way (row_text T r))

-- where letters are characters, texts stand as in a plain file
pub near_rows : (way : Packing) (T : List (List ℕ)) → HaveCharLetters way T → (rows : List Row)
    → All (IsRowOf T) rows → IsSorted (row_cmp Plain T) rows → IsSorted (row_cmp way T) rows
near_rows way T near rows each up k d l m =
    let x = get_or rows (k + 1) d in
    let y = get_or rows k d in
    let e = near x.index [] (each (k + 1) d m).within in
    let f = near y.index [] (each k d (omega (arith, m))).within in
    ap (λ s. is_lt (end_last_cmp (reverse s) (letters_backwards way (row_text T y)))) e
    ∙ ap (λ s. is_lt (end_last_cmp (chars_backwards (row_text T x)) (reverse s))) f ∙ up k d l m

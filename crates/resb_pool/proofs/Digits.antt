-- Texts whose characters' digits differ compare as these do.
use Rattle.std.proofs.Common.{◌≡◌, ℕ, suc, ◌+◌, ◌/◌, ◌%◌, ◌<◌, ◌≤◌, List, [], ◌∷◌, ◌++◌}
use Rattle.std.proofs.Common.{inl, inr, true, refl, sym, ◌∙◌, ap, subst, arith, reverse, length}
use Rattle.std.proofs.Common.{◌-◌}
use Rattle.std.specs.List.{All, flat_map}
use Rattle.std.specs.Char.{IsScalar}
use Rattle.std.specs.Str.{IsUtf8, IsAscii, all_scalars, chars}
use Rattle.std.specs.Ordering.{nat_cmp, ordering_reverse}
use Rattle.std.specs.declared.cmp.Ordering.TheVariants.{Less, Greater}
use Rattle.std.proofs.lemmas.Bool.{and_parts, cases_lt}
use Rattle.std.proofs.lemmas.Bool.Decides.{nat_tests}
use Rattle.std.proofs.lemmas.Cmp.{nat_cmp_total, tied_itself}
use Rattle.std.proofs.lemmas.List.{get_or-reverse, get_or_past, length-reverse}
use Rattle.std.proofs.lemmas.List.Elements.{All-nil, All-cons}
use Rattle.std.proofs.lemmas.List.Sorted.{All-permutation, IsPermutation-reverse}
use Rattle.std.proofs.lemmas.Str.{scalars-chars, chars-IsAscii}
use Rattle.resb_pool.specs.Order.{end_last_cmp}
use Rattle.resb_pool.specs.Inner.Cuts.{chars_backwards}
use Rattle.resb_pool.specs.Inner.Suffixes.{char_digits, digits_backwards}
use Rattle.resb_pool.proofs.SuffixOrder.{end_last_total}
use Rattle.resb_pool.proofs.Numbers.{ordering_then_less, ordering_then_equal, three_ways}

-- the digits of characters
abbrev digits : List ℕ → List ℕ
digits cs = flat_map char_digits cs

pub ascii_digit : (c : ℕ) → c < 0x80 → char_digits c ≡ c ∷ []
ascii_digit c h = grind (arith, nat_tests)

pub other_digits : (c : ℕ) → 0x80 ≤ c
    → char_digits c ≡ (0x80 + c / 0x4000) ∷ (c / 0x80 % 0x80) ∷ (c % 0x80) ∷ []
other_digits c h = grind (arith, nat_tests)

-- each digit is below the end's
abbrev pub IsSmall : List ℕ → Type 0
IsSmall ds = All (λ d. d < 255) ds

abbrev AreChars : List ℕ → Type 0
AreChars cs = All (λ c. c < 0x11_0000) cs

pub small_scalar : (c : ℕ) → IsScalar c → c < 0x11_0000
small_scalar c s = grind (arith, nat_tests)

small_chars : (cs : List ℕ) → all_scalars cs ≡ true → AreChars cs
small_chars [] e = All-nil (λ c. c < 0x11_0000)
small_chars (c ∷ cs) e =
    let b = and_parts _ _ e in
    All-cons (λ c. c < 0x11_0000) c cs (small_scalar c b.0) (small_chars cs b.1)

more : (d : ℕ) (ds : List ℕ) → d < 255 → IsSmall ds → IsSmall (d ∷ ds)
more d ds l h = All-cons (λ d. d < 255) d ds l h

small_digits : (cs : List ℕ) → AreChars cs → IsSmall (digits cs)
small_digits [] h = All-nil (λ d. d < 255)
small_digits (c ∷ cs) h =
    let rest : IsSmall (digits cs) = small_digits cs (λ k d l. h (suc k) d (omega (arith, l))) in
    let within : c < 0x11_0000 = h 0 c (omega arith) in
    elim (cases_lt c 0x80) [
      | inl k ↦ subst (λ l. IsSmall (l ++ digits cs)) (sym (ascii_digit c k))
          (more c (digits cs) (omega (arith, k)) rest)
      | inr k ↦ subst (λ l. IsSmall (l ++ digits cs)) (sym (other_digits c (omega (arith, k))))
          (more (0x80 + c / 0x4000) ((c / 0x80 % 0x80) ∷ (c % 0x80) ∷ digits cs)
          (omega (arith, within)) (more (c / 0x80 % 0x80) ((c % 0x80) ∷ digits cs) (omega arith)
          (more (c % 0x80) (digits cs) (omega arith) rest)))
    ]

pub small_key : (t : List ℕ) → IsUtf8 t → IsSmall (digits_backwards t)
small_key t u = small_digits (chars_backwards t)
    (All-permutation (λ c. c < 0x11_0000) (chars t) (reverse (chars t))
    (IsPermutation-reverse (chars t)) (small_chars (chars t) (scalars-chars t u)))

-- the first digit decides
head_less : (p q : ℕ) (a b : List ℕ) → p < q → end_last_cmp (p ∷ a) (q ∷ b) ≡ Less
head_less p q a b l = ordering_then_less (nat_cmp p q) (end_last_cmp a b)
    (three_ways (nat_cmp p q ≡ Less) p q (λ e. e) (λ e. absurd (omega (arith, e, l)))
    (λ m. absurd (omega (arith, m, l))))

-- and where it is the same, the others do
head_same : (p q : ℕ) (a b : List ℕ) → p ≡ q → end_last_cmp (p ∷ a) (q ∷ b) ≡ end_last_cmp a b
head_same p q a b e = ap (λ z. end_last_cmp (p ∷ a) (z ∷ b)) (sym e)
    ∙ ordering_then_equal (nat_cmp p p) (end_last_cmp a b) (tied_itself nat_cmp_total p)

three_less : (x y : ℕ) (a b : List ℕ) → x < y
    → end_last_cmp ((0x80 + x / 0x4000) ∷ (x / 0x80 % 0x80) ∷ (x % 0x80) ∷ a)
    ((0x80 + y / 0x4000) ∷ (y / 0x80 % 0x80) ∷ (y % 0x80) ∷ b) ≡ Less
three_less x y a b l =
    let m = x / 0x80 % 0x80 in
    let n = y / 0x80 % 0x80 in
    let u = x % 0x80 in
    let v = y % 0x80 in
    let whole : end_last_cmp ((0x80 + x / 0x4000) ∷ m ∷ u ∷ a) ((0x80 + y / 0x4000) ∷ n ∷ v ∷ b)
    ≡ Less =
    elim (cases_lt (x / 0x4000) (y / 0x4000)) [
      | inl h ↦ head_less (0x80 + x / 0x4000) (0x80 + y / 0x4000) (m ∷ u ∷ a) (n ∷ v ∷ b)
          (omega (arith, h))
      | inr h ↦ head_same (0x80 + x / 0x4000) (0x80 + y / 0x4000) (m ∷ u ∷ a) (n ∷ v ∷ b)
          (omega (arith, h, l)) ∙ elim (cases_lt m n) [
            | inl k ↦ head_less m n (u ∷ a) (v ∷ b) k
            | inr k ↦ head_same m n (u ∷ a) (v ∷ b) (omega (arith, h, k, l))
                ∙ head_less u v a b (omega (arith, h, k, l))
          ]
    ] in
    whole

-- a lower character has the lower digits
char_less : (x y : ℕ) (a b : List ℕ) → x < y
    → end_last_cmp (char_digits x ++ a) (char_digits y ++ b) ≡ Less
char_less x y a b l = elim (cases_lt x 0x80) [
  | inl h ↦ elim (cases_lt y 0x80) [
    | inl k ↦ ap (λ u. end_last_cmp (u ++ a) (char_digits y ++ b)) (ascii_digit x h)
        ∙ ap (λ u. end_last_cmp (x ∷ a) (u ++ b)) (ascii_digit y k) ∙ head_less x y a b l
    | inr k ↦ ap (λ u. end_last_cmp (u ++ a) (char_digits y ++ b)) (ascii_digit x h)
        ∙ ap (λ u. end_last_cmp (x ∷ a) (u ++ b)) (other_digits y (omega (arith, k)))
        ∙ head_less x (0x80 + y / 0x4000) a ((y / 0x80 % 0x80) ∷ (y % 0x80) ∷ b)
        (omega (arith, h))
  ]
  | inr h ↦ ap (λ u. end_last_cmp (u ++ a) (char_digits y ++ b)) (other_digits x (omega (arith, h)))
      ∙ ap (λ u. end_last_cmp ((0x80 + x / 0x4000) ∷ (x / 0x80 % 0x80) ∷ (x % 0x80) ∷ a) (u ++ b))
      (other_digits y (omega (arith, h, l))) ∙ three_less x y a b l
]

-- a character stands before the end
before_end : (c : ℕ) (a : List ℕ) → end_last_cmp [] (char_digits c ++ a) ≡ Greater
before_end c a = elim (cases_lt c 0x80) [
  | inl h ↦ ap (λ l. end_last_cmp [] (l ++ a)) (ascii_digit c h)
  | inr h ↦ ap (λ l. end_last_cmp [] (l ++ a)) (other_digits c (omega (arith, h)))
]

same_start : (a x y : List ℕ) → end_last_cmp (a ++ x) (a ++ y) ≡ end_last_cmp x y
same_start [] x y = refl
same_start (z ∷ a) x y = head_same z z (a ++ x) (a ++ y) refl ∙ same_start a x y

not_both : (a b : List ℕ) → end_last_cmp b a ≡ Less → end_last_cmp a b ≡ Less → ⊥
not_both a b f g = cc (sym g ∙ end_last_total.antisymm a b ∙ ap ordering_reverse f)

pub digits_order : (xs ys : List ℕ) → end_last_cmp (digits xs) (digits ys) ≡ Less
    → end_last_cmp xs ys ≡ Less
digits_order [] [] e = e
digits_order [] (y ∷ ys) e = sym (before_end y (digits ys)) ∙ e
digits_order (x ∷ xs) [] e = refl
digits_order (x ∷ xs) (y ∷ ys) e = three_ways (end_last_cmp (x ∷ xs) (y ∷ ys) ≡ Less) x y
    (λ f. ordering_then_less (nat_cmp x y) (end_last_cmp xs ys) f)
    (λ f. head_same x y xs ys f ∙ digits_order xs ys
    (sym (same_start (char_digits x) (digits xs) (digits ys))
    ∙ ap (λ z. end_last_cmp (char_digits x ++ digits xs) (char_digits z ++ digits ys)) f ∙ e))
    (λ m. absurd (not_both (digits (x ∷ xs)) (digits (y ∷ ys))
    (char_less y x (digits ys) (digits xs) m) e))

-- an ASCII character more
pub ascii_more : (c : ℕ) (xs cs : List ℕ) → c < 0x80 → xs ≡ c ∷ cs → digits xs ≡ c ∷ digits cs
ascii_more c xs cs l e = ap digits e ∙ ap (λ ds. ds ++ digits cs) (ascii_digit c l)

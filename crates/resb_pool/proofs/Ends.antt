-- How two texts compare once an end that they share is left out.
use Rattle.std.proofs.Common.{◌≡◌, ℕ, List, [], ◌∷◌, ◌++◌, ◌<◌, length, refl, sym, ◌∙◌, ap}
use Rattle.std.proofs.Common.{reverse, encode_utf8, append-nil, arith}
use Rattle.std.proofs.lemmas.Bool.Decides.{nat_tests}
use Rattle.std.proofs.lemmas.List.{nil_from_length}
use Rattle.std.specs.Char.{IsScalar}
use Rattle.std.specs.Char.Escape.{encode_utf16}
use Rattle.std.specs.List.{flat_map}
use Rattle.std.specs.Str.{IsUtf8}
use Rattle.std.specs.Ordering.{nat_cmp}
use Rattle.std.specs.declared.cmp.Ordering.TheVariants.{Less, Equal, Greater}
use Rattle.std.proofs.lemmas.Cmp.{nat_cmp_total, tied_itself}
use Rattle.std.proofs.lemmas.Str.{chars-nil, IsUtf8-encode, encode_ascii}
use Rattle.resb_format.specs.Units.{units}
use Rattle.resb_pool.specs.Order.{suffix_cmp, end_last_cmp}
use Rattle.resb_pool.specs.Inner.Cuts.{chars_backwards, letters_backwards, IsCut, IsShared}
use Rattle.resb_pool.specs.Inner.Ranks.{last_rank}
use Rattle.resb_pool.specs.declared.packing.Packing.{Packing}
use Rattle.resb_pool.specs.declared.packing.Packing.TheVariants.{Plain, Compact}
use Rattle.resb_pool.proofs.Cut.{rest_utf8, key_last, chars_encode, cut_whole}
use Rattle.resb_pool.proofs.EndLetters.{letters_cut}
use Rattle.resb_pool.proofs.Numbers.{ordering_then_equal, ordering_then_differs}
use Rattle.resb_pool.proofs.UnitsOrder.{last_differ, units_before_end, end_behind_units}

same_start : (a x y : List ℕ) → end_last_cmp (a ++ x) (a ++ y) ≡ end_last_cmp x y
same_start [] x y = refl
same_start (z ∷ a) x y = ordering_then_equal (nat_cmp z z) (end_last_cmp (a ++ x) (a ++ y))
    (tied_itself nat_cmp_total z) ∙ same_start a x y

-- the last character comes first in the key
last_of : (t x tail z : List ℕ) (c : ℕ) → IsCut t x tail → x ≡ z ++ encode_utf8 c → IsScalar c
    → chars_backwards x ≡ c ∷ chars_backwards z
last_of t x tail z c h e s = key_last x z c (record {
  is = e;
  rest_utf8 = rest_utf8 x z (encode_utf8 c) e h.rest_utf8 (IsUtf8-encode c s);
  tail_utf8 = IsUtf8-encode c s;
}) s

-- the same of any text
pub last_taken : (x z : List ℕ) (c : ℕ) → IsUtf8 x → x ≡ z ++ encode_utf8 c → IsScalar c
    → IsUtf8 z × (chars_backwards x ≡ c ∷ chars_backwards z)
last_taken x z c u e s = (
  rest_utf8 x z (encode_utf8 c) e u (IsUtf8-encode c s),
  last_of x x [] z c (cut_whole x x u refl) e s,
)

-- and of a byte that is ASCII
pub ascii_taken : (x z : List ℕ) (b : ℕ) → IsUtf8 x → x ≡ z ++ b ∷ [] → b < 128
    → IsUtf8 z × (chars_backwards x ≡ b ∷ chars_backwards z)
ascii_taken x z b u e l =
    last_taken x z b u (e ∙ ap (λ bs. z ++ bs) (sym (encode_ascii b l))) (grind (arith, nat_tests))

pub none_left : (x : List ℕ) → length x ≡ 0 → chars_backwards x ≡ []
none_left x z = ap chars_backwards (nil_from_length x z) ∙ ap reverse chars-nil

none_of : (way : Packing) (x : List ℕ) → length x ≡ 0 → letters_backwards way x ≡ []
none_of Plain x z = none_left x z
none_of Compact x z = ap (λ t. reverse (units t)) (nil_from_length x z)
    ∙ ap (λ cs. reverse (flat_map encode_utf16 cs)) chars-nil

-- a character's own letters, last first
abbrev char_letters : Packing → ℕ → List ℕ
char_letters Plain c = c ∷ []
char_letters Compact c = reverse (encode_utf16 c)

last_letters : (way : Packing) (t x tail z : List ℕ) (c : ℕ) → IsCut t x tail
    → x ≡ z ++ encode_utf8 c → IsScalar c
    → letters_backwards way x ≡ char_letters way c ++ letters_backwards way z
last_letters Plain t x tail z c h e s = last_of t x tail z c h e s
last_letters Compact t x tail z c h e s =
    letters_cut Compact x z (encode_utf8 c) (record {
      is = e;
      rest_utf8 = rest_utf8 x z (encode_utf8 c) e h.rest_utf8 (IsUtf8-encode c s);
      tail_utf8 = IsUtf8-encode c s;
    })
    ∙ ap (λ cs. reverse (flat_map encode_utf16 cs) ++ letters_backwards Compact z)
    (chars_encode c s)
    ∙ ap (λ l. reverse l ++ letters_backwards Compact z) (append-nil (encode_utf16 c))

differ : (way : Packing) (c d : ℕ) (a b : List ℕ) → IsScalar c → IsScalar d → (c ≡ d → ⊥)
    → end_last_cmp (char_letters way c ++ a) (char_letters way d ++ b)
    ≡ nat_cmp (last_rank way c) (last_rank way d)
differ Plain c d a b s t ne = ordering_then_differs c d (end_last_cmp a b) ne
differ Compact c d a b s t ne = last_differ c d s t ne a b

-- a character has a letter, which stands before the end
before_end : (way : Packing) (c : ℕ) (a : List ℕ) → end_last_cmp (char_letters way c ++ a) [] ≡ Less
before_end Plain c a = refl
before_end Compact c a = units_before_end c a

behind_letter : (way : Packing) (c : ℕ) (a : List ℕ)
    → end_last_cmp [] (char_letters way c ++ a) ≡ Greater
behind_letter Plain c a = refl
behind_letter Compact c a = end_behind_units c a

module _ (way : Packing) (s t x y : List ℕ) (h : IsShared s t x y) where
  pub without_end : suffix_cmp way s t
      ≡ end_last_cmp (letters_backwards way x) (letters_backwards way y)
  without_end =
      ap (λ l. end_last_cmp l (letters_backwards way t)) (letters_cut way s x h.tail h.left)
      ∙ ap (end_last_cmp (letters_backwards way h.tail ++ letters_backwards way x))
      (letters_cut way t y h.tail h.right)
      ∙ same_start (letters_backwards way h.tail) (letters_backwards way x)
      (letters_backwards way y)

  compared : (a b : List ℕ) → letters_backwards way x ≡ a → letters_backwards way y ≡ b
      → suffix_cmp way s t ≡ end_last_cmp a b
  compared a b e f = without_end ∙ ap (λ l. end_last_cmp l (letters_backwards way y)) e
      ∙ ap (end_last_cmp a) f

  pub by_last : (u v : List ℕ) (c d : ℕ) → x ≡ u ++ encode_utf8 c → y ≡ v ++ encode_utf8 d
      → IsScalar c → IsScalar d → (c ≡ d → ⊥)
      → suffix_cmp way s t ≡ nat_cmp (last_rank way c) (last_rank way d)
  by_last u v c d e f p q ne =
      compared (char_letters way c ++ letters_backwards way u)
      (char_letters way d ++ letters_backwards way v)
      (last_letters way s x h.tail u c h.left e p) (last_letters way t y h.tail v d h.right f q)
      ∙ differ way c d (letters_backwards way u) (letters_backwards way v) p q ne

  pub left_longer : (u : List ℕ) (c : ℕ) → x ≡ u ++ encode_utf8 c → IsScalar c → length y ≡ 0
      → suffix_cmp way s t ≡ Less
  left_longer u c e p z = compared (char_letters way c ++ letters_backwards way u) []
      (last_letters way s x h.tail u c h.left e p) (none_of way y z)
      ∙ before_end way c (letters_backwards way u)

  pub right_longer : (v : List ℕ) (d : ℕ) → y ≡ v ++ encode_utf8 d → IsScalar d → length x ≡ 0
      → suffix_cmp way s t ≡ Greater
  right_longer v d f q z = compared [] (char_letters way d ++ letters_backwards way v)
      (none_of way x z) (last_letters way t y h.tail v d h.right f q)
      ∙ behind_letter way d (letters_backwards way v)

  pub both_end : length x ≡ 0 → length y ≡ 0 → suffix_cmp way s t ≡ Equal
  both_end z w = compared [] [] (none_of way x z) (none_of way y w)

-- Little-endian bytes that were written, read back as words and units.
use Rattle.std.proofs.Common.{◌≡◌, ℕ, zero, suc, ◌+◌, ◌*◌, ◌^◌, ◌<◌, List, [], ◌∷◌, ◌++◌}
use Rattle.std.proofs.Common.{length, refl, ap, length-append, arith, true, inl, inr, sym, subst}
use Rattle.std.specs.Int.{to_le_bytes, w16, w32}
use Rattle.std.specs.List.{flat_map}
use Rattle.std.specs.Char.Escape.{encode_utf16}
use Rattle.std.specs.Str.{chars, IsUtf8}
use Rattle.std.proofs.Math.Utf8.{scalar, scalars, scalar_cases}
use Rattle.std.proofs.lemmas.Bool.{and_parts, cases_lt}
use Rattle.std.proofs.lemmas.Str.{scalars-chars}
use Rattle.resb_format.specs.Units.{units}
use Rattle.resb_format.proofs.TextUnits.{low_char}
use Rattle.resb_pool.proofs.Utf16.{high_char}
use Rattle.resb_format.specs.Bytes.{units_of, words_of}
use Rattle.resb_layout.specs.Laid.{words}
use Rattle.resb_format.specs.Bytes.{units_as_bytes}
use Rattle.resb_layout.proofs.Numbers.{four_bytes}
use Rattle.resb_format.proofs.Numbers.{two_bytes}

-- each number is below a bound
abbrev pub EachBelow : ℕ → List ℕ → Type 0
EachBelow n [] = Unit {0}
EachBelow n (x ∷ xs) = (x < n) × EachBelow n xs

pub written_word_read : (w : ℕ) (rest : List ℕ) → w < 2 ^ 32
    → words_of (to_le_bytes w32 w ++ rest) ≡ w ∷ words_of rest
unfolding words_of
written_word_read w rest h = λ i. four_bytes w h i ∷ words_of rest

pub unit_read : (u : ℕ) (rest : List ℕ) → u < 2 ^ 16
    → units_of (to_le_bytes w16 u ++ rest) ≡ u ∷ units_of rest
unfolding units_of
unit_read u rest h = λ i. two_bytes u h i ∷ units_of rest

-- words that are written are read back
pub words_read : (ws rest : List ℕ) → EachBelow (2 ^ 32) ws
    → words_of (words ws ++ rest) ≡ ws ++ words_of rest
unfolding words_of
words_read [] rest h = refl
words_read (w ∷ ws) rest h = λ i. four_bytes w h.0 i ∷ words_read ws rest h.1 i

-- units that are written are read back
pub halves_read : (us rest : List ℕ) → EachBelow (2 ^ 16) us
    → units_of (units_as_bytes us ++ rest) ≡ us ++ units_of rest
unfolding units_of
halves_read [] rest h = refl
halves_read (u ∷ us) rest h = λ i. two_bytes u h.0 i ∷ halves_read us rest h.1 i

-- units take two bytes each
pub halves_len : (us : List ℕ) → length (units_as_bytes us) ≡ 2 * length us
halves_len [] = refl
halves_len (u ∷ us) = omega (
  arith,
  halves_len us,
  length-append (to_le_bytes w16 u)
      (units_as_bytes us),
)

-- whole words, and then others
pub words_behind : (at : ℕ) (front rest : List ℕ) → length front ≡ 4 * at
    → words_of (front ++ rest) ≡ words_of front ++ words_of rest
unfolding words_of
words_behind zero [] rest e = refl
words_behind zero (a ∷ front) rest e = absurd (omega (arith, e))
words_behind (suc at) (a ∷ b ∷ c ∷ d ∷ front) rest e =
    ap (λ ws. (a + 256 * b + 65536 * c + 16777216 * d)
    ∷ ws) (words_behind at front rest (omega (arith, e)))
words_behind (suc at) [] rest e = absurd (omega (arith, e))
words_behind (suc at) (a ∷ []) rest e = absurd (omega (arith, e))
words_behind (suc at) (a ∷ b ∷ []) rest e = absurd (omega (arith, e))
words_behind (suc at) (a ∷ b ∷ c ∷ []) rest e = absurd (omega (arith, e))

pub units_behind : (at : ℕ) (front rest : List ℕ) → length front ≡ 2 * at
    → units_of (front ++ rest) ≡ units_of front ++ units_of rest
unfolding units_of
units_behind zero [] rest e = refl
units_behind zero (a ∷ front) rest e = absurd (omega (arith, e))
units_behind (suc at) (a ∷ b ∷ front) rest e =
    ap (λ us. (a + 256 * b) ∷ us) (units_behind at front rest (omega (arith, e)))
units_behind (suc at) [] rest e = absurd (omega (arith, e))
units_behind (suc at) (a ∷ []) rest e = absurd (omega (arith, e))

below_both : (n : ℕ) (xs ys : List ℕ) → EachBelow n xs → EachBelow n ys → EachBelow n (xs ++ ys)
below_both n [] ys h k = k
below_both n (x ∷ xs) ys h k = (h.0, below_both n xs ys h.1 k)

char_small : (c : ℕ) → scalar c ≡ true → EachBelow (2 ^ 16) (encode_utf16 c)
char_small c s = elim (cases_lt c 0x1_0000) [
  | inl h ↦ subst (EachBelow (2 ^ 16)) (sym (low_char c h)) (omega arith, tt)
  | inr h ↦ subst (EachBelow (2 ^ 16)) (sym (high_char c h)) (elim (scalar_cases c s) [
    | inl l ↦ absurd (omega arith)
    | inr l ↦ (omega arith, (omega arith, tt))
  ])
]

chars_small : (cs : List ℕ) → scalars cs ≡ true → EachBelow (2 ^ 16) (flat_map encode_utf16 cs)
chars_small [] s = tt
chars_small (c ∷ cs) s =
    let both = and_parts (scalar c) (scalars cs) s in
    below_both (2 ^ 16) (encode_utf16 c) (flat_map encode_utf16 cs) (char_small c both.0)
    (chars_small cs both.1)

-- the units of a text are numbers of 16 bits
pub units_small : (s : List ℕ) → IsUtf8 s → EachBelow (2 ^ 16) (units s)
units_small s u = chars_small (chars s) (scalars-chars s u)

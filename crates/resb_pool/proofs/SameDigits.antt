-- Texts of which the first 16 digits are the same and all digits are the same text.
use Rattle.std.proofs.Common.{◌≡◌, ℕ, ◌+◌, ◌-◌, ◌*◌, ◌/◌, ◌%◌, ◌^◌, ◌≤◌, List, ◌++◌}
use Rattle.std.proofs.Common.{length, inl, inr, refl, sym, ◌∙◌, ap, arith, length-append}
use Rattle.std.specs.Str.{IsUtf8}
use Rattle.std.specs.declared.cmp.Ordering.TheVariants.{Equal}
use Rattle.std.proofs.lemmas.Bool.{cases_lt}
use Rattle.std.proofs.lemmas.Cmp.{tied_itself}
use Rattle.std.proofs.lemmas.List.{nil_from_length}
use Rattle.resb_pool.specs.Order.{suffix_cmp}
use Rattle.resb_pool.specs.Records.{EndsWith}
use Rattle.resb_pool.specs.Inner.Cuts.{chars_backwards}
use Rattle.resb_pool.specs.Inner.Suffixes.{digits_backwards, key_of_digits, last_digits}
use Rattle.resb_pool.specs.declared.packing.Packing.TheVariants.{Plain}
use Rattle.resb_pool.proofs.Digits.{IsSmall, small_key}
use Rattle.resb_pool.proofs.EndDigits.{digits_tell}
use Rattle.resb_pool.proofs.KeyDigits.{dropped, last_digit}
use Rattle.resb_pool.proofs.SuffixOrder.{end_last_total}

-- where the last of 16 digits is the end's, there are fewer
few : (ds : List ℕ) → IsSmall ds → key_of_digits 0 16 ds % 256 ≡ 255 → length ds ≤ 15
few ds s e = elim (cases_lt 15 (length ds)) [
  | inl l ↦ absurd (omega (arith, s 15 255 l, e, last_digit 15 0 ds s))
  | inr l ↦ l
]

ends : (s t : List ℕ) → IsUtf8 s → IsUtf8 t → length (digits_backwards s) ≤ 15
    → last_digits s ≡ last_digits t → EndsWith t s
ends s t u v l e =
    let ds = digits_backwards s in
    let es = digits_backwards t in
    let n = length ds in
    let m : n + (16 - n) ≡ 16 = omega (arith, l) in
    let both : key_of_digits 0 (n + (16 - n)) es ≡ key_of_digits 0 (n + (16 - n)) ds =
    ap (λ k. key_of_digits 0 k es) m ∙ sym e ∙ sym (ap (λ k. key_of_digits 0 k ds) m) in
    digits_tell s t n u v refl
    (sym (dropped (16 - n) n 0 es (small_key t v)) ∙ ap (λ k. k / 2 ^ (8 * (16 - n))) both
    ∙ dropped (16 - n) n 0 ds (small_key s u))

-- texts that end with one another are the same
one_text : (s t : List ℕ) → EndsWith t s → EndsWith s t → t ≡ s
one_text s t h k =
    let none : length h.front ≡ 0 =
    omega (
      arith,
      ap length h.is,
      ap length k.is,
      length-append h.front s,
      length-append k.front t,
    ) in
    h.is ∙ ap (λ f. f ++ s) (nil_from_length h.front none)

pub same_digits_tie : (s t : List ℕ) → IsUtf8 s → IsUtf8 t → last_digits s ≡ last_digits t
    → last_digits s % 256 ≡ 255 → Equal ≡ suffix_cmp Plain s t
same_digits_tie s t u v e z =
    let l = few (digits_backwards s) (small_key s u) z in
    let m = few (digits_backwards t) (small_key t v) (ap (λ k. k % 256) (sym e) ∙ z) in
    let same = one_text s t (ends s t u v l e) (ends t s v u m (sym e)) in
    sym (ap (λ r. suffix_cmp Plain s r) same ∙ tied_itself end_last_total (chars_backwards s))

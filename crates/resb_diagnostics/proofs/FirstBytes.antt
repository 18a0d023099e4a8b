-- Where a byte stands first in a part of a text.
use Rattle.std.proofs.Common.{◌≡◌, ◌∙◌, ℕ, ◌+◌, ◌-◌, ◌<◌, ◌≤◌, Bool, true, false, ◌==◌, List}
use Rattle.std.proofs.Common.{length, get_or, take, drop, refl, sym, ap, arith, eqb-true}
use Rattle.std.proofs.Common.{length-drop}
use Rattle.std.proofs.lemmas.List.{get_or-take, get_or-drop, length-take-le}
use Rattle.resb_diagnostics.specs.Inner.Tokens.{NoByte, IsFirst}

-- the byte at a place of the part
at_part : (text : List ℕ) (from to k : ℕ) → k < to - from
    → get_or (take (to - from) (drop from text)) k 0 ≡ get_or text (from + k) 0
at_part text from to k lt =
    get_or-take (to - from) (drop from text) k 0 lt ∙ get_or-drop from text k 0

pub length_part : (text : List ℕ) (from to : ℕ) → to ≤ length text
    → length (take (to - from) (drop from text)) ≡ to - from
length_part text from to fits =
    let rest = length-drop from text in
    length-take-le (to - from) (drop from text) (omega (arith, rest))

pub not_in_part : (b : ℕ) (text : List ℕ) (from to n : ℕ) → n ≤ to - from
    → ((k : ℕ) → k < n
    → (get_or (take (to - from) (drop from text)) k 0 == b) ≡ true → ⊥)
    → NoByte b text from (from + n)
not_in_part b text from to n fits never k low high =
    by (get_or text k 0 == b) refl
  where
    j : ℕ
    j = k - from

    same : get_or (take (to - from) (drop from text)) j 0 ≡ get_or text k 0
    same = at_part text from to j (omega arith) ∙ ap (λ i. get_or text i 0) (omega arith)

    by : (r : Bool) → (get_or text k 0 == b) ≡ r → r ≡ false
    by false e = refl
    by true e = absurd (never j (omega arith) (ap (λ x. x == b) same ∙ e))

pub first_in_part : (b : ℕ) (text : List ℕ) (from to n : ℕ) → n < to - from
    → (get_or (take (to - from) (drop from text)) n 0 == b) ≡ true
    → ((k : ℕ) → k < n
    → (get_or (take (to - from) (drop from text)) k 0 == b) ≡ true → ⊥)
    → IsFirst b text from to (from + n)
first_in_part b text from to n fits is never = record {
  order = omega arith;
  fits = omega arith;
  stands = sym (at_part text from to n fits) ∙ eqb-true _ b is;
  none = not_in_part b text from to n (omega arith) never;
}

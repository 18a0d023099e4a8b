-- The longest end of bytes that is a text, by where a reading of text stops.
use Rattle.std.proofs.Common.{ℕ, List, ◌≡◌, ◌+◌, ◌-◌, ◌<◌, ◌≤◌, take, drop, length, arith}
use Rattle.std.proofs.Common.{◌⊎◌, inl, inr}
use Rattle.std.proofs.lemmas.Bool.{cases_lt}
use Rattle.std.proofs.lemmas.List.{get_or-take, length-take-le, take-append-drop, take-take}
use Rattle.std.proofs.lemmas.List.{drop-drop}
use Rattle.std.proofs.lemmas.Str.{IsUtf8-append, IsUtf8-take, IsCharBoundary-from_drop}
use Rattle.std.specs.Str.{IsUtf8, IsValidUpTo, IsCharBoundary}

-- no end that begins where a reading stops, or before it, is a text
pub no_text_before : (bs : List ℕ) (v k : ℕ) → (IsUtf8 bs → ⊥) → IsValidUpTo bs v → k ≤ v
    → IsUtf8 (drop k bs) → ⊥
no_text_before bs v k not up le u =
    let l = up.short in
    let b = IsCharBoundary-from_drop bs k (omega (arith, l, le)) u in
    let many : length (take v bs) ≡ v = length-take-le v bs (omega (arith, l)) in
    let here : IsCharBoundary (take v bs) k = (
      omega (arith, many, le),
      λ m. rw (get_or-take v bs k 0 (omega (arith, many, m))) (b.1 (omega (arith, l, le))),
    ) in
    let front : IsUtf8 (take k (take v bs)) = IsUtf8-take (take v bs) k up.front here in
    let same : take k (take v bs) ≡ take k bs = take-take k v bs le in
    let whole = IsUtf8-append (take k bs) (drop k bs) (rw same at front) u in
    not (rw (take-append-drop k bs) at whole)

-- the same of a list behind its first bytes
pub no_text_further : (bs rest : List ℕ) (before v k : ℕ) → rest ≡ drop before bs
    → ((j : ℕ) → j < before → IsUtf8 (drop j bs) → ⊥) → (IsUtf8 rest → ⊥) → IsValidUpTo rest v
    → k < before + (v + 1) → IsUtf8 (drop k bs) → ⊥
no_text_further bs rest before v k r h not up l = cases (cases_lt k before)
  where
    cases : (k < before) ⊎ (before ≤ k) → IsUtf8 (drop k bs) → ⊥
    cases (inl a) u = h k a u
    cases (inr a) u =
        let e : before + (k - before) ≡ k = omega (arith, a) in
        let f : drop (k - before) (drop before bs) ≡ drop (before + (k - before)) bs =
        drop-drop (k - before) before bs in
        let g : IsUtf8 (drop (k - before) rest) = rw (r, f, e) u in
        no_text_before rest v (k - before) not up (omega (arith, a, l)) g

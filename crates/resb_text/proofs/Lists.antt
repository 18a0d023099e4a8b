-- Lists and options: what names no word of this project.
use Rattle.std.proofs.Common.{◌≡◌, ℕ, ◌+◌, ◌-◌, List, get_or, ap, ◌∙◌, drop, arith, length, take}
use Rattle.std.proofs.Common.{length-drop, true, ◌<◌, ◌≤◌, false, refl, sym, Option, Some, None}
use Rattle.std.proofs.Common.{eqb, eqb-true}
use Rattle.std.proofs.lemmas.List.{get_or-drop, take_all}
use Rattle.std.specs.Prelude.{Bool, not}
use Rattle.std.proofs.lemmas.Bool.{false≢true}
use Rattle.std.specs.Option.{option_eq}

-- the byte at a place of what is left from here on
pub at_rest : (text rest : List ℕ) (from k : ℕ) → rest ≡ drop from text
    → get_or rest k 0 ≡ get_or text (from + k) 0
at_rest text rest from k e = ap (λ xs. get_or xs k 0) e ∙ get_or-drop from text k 0

-- what is left, as a slice shows it
pub rest_of : (text s : List ℕ) (from : ℕ) → s ≡ text
    → take (length s - from) (drop from s) ≡ drop from text
rest_of text s from e =
    take_all (length s - from) (drop from s) (omega (arith, length-drop from s)) ∙ ap (drop from) e

-- none does before this one
pub none_passes_before : (test : ℕ → Bool) (text rest : List ℕ) (from n : ℕ) → rest ≡ drop from text
    → ((k : ℕ) → k < n → test (get_or rest k 0) ≡ true → ⊥)
    → (k : ℕ) → from ≤ k → k < from + n → test (get_or text k 0) ≡ false
none_passes_before test text rest from n e never k le lt = no (test (get_or text k 0)) refl
  where
    no : (b : Bool) → test (get_or text k 0) ≡ b → test (get_or text k 0) ≡ false
    no false is = is
    no true is =
        let i : from + (k - from) ≡ k = omega arith in
        absurd (never (k - from) (omega arith)
        (ap test (at_rest text rest from (k - from) e ∙ ap (λ j. get_or text j 0) i) ∙ is))

-- an option that is this number
pub some_is : (o : Option ℕ) (b : ℕ) → not (option_eq eqb o (Some b)) ≡ false → o ≡ Some b
some_is None b h = absurd (false≢true (sym h))
some_is (Some x) b h = ap Some (eqb-true x b (flip (eqb x b) h))
  where
    flip : (c : Bool) → not c ≡ false → c ≡ true
    flip true e = refl
    flip false e = absurd (false≢true (sym e))

-- Lists: what names no word of this project.
use Rattle.std.proofs.Common.{◌≡◌, ◌≤◌, ◌<◌, List, [], ◌∷◌, length, get_or, arith}

-- a list of two things, by its length
pub two_words : {A : Type 0} (xs : List A) (a b : A) → 2 ≤ length xs → length xs < 3
    → a ≡ get_or xs 0 a
    → b ≡ get_or xs 1 b → xs ≡ a ∷ b ∷ []
two_words [] a b long short e f = absurd (omega arith)
two_words (x ∷ []) a b long short e f = absurd (omega arith)
two_words (x ∷ y ∷ []) a b long short e f = let g : a ≡ x = e in let h : b ≡ y = f in cc
two_words (x ∷ y ∷ z ∷ xs) a b long short e f = absurd (omega arith)

-- a list of three things, by its length
pub three_words : {A : Type 0} (xs : List A) (a b d : A) → 3 ≤ length xs → length xs < 4
    → a ≡ get_or xs 0 a
    → b ≡ get_or xs 1 b → d ≡ get_or xs 2 d → xs ≡ a ∷ b ∷ d ∷ []
three_words [] a b d long short e f g = absurd (omega arith)
three_words (x ∷ []) a b d long short e f g = absurd (omega arith)
three_words (x ∷ y ∷ []) a b d long short e f g = absurd (omega arith)
three_words (x ∷ y ∷ z ∷ []) a b d long short e f g =
    let h : a ≡ x = e in let i : b ≡ y = f in let j : d ≡ z = g in cc
three_words (x ∷ y ∷ z ∷ w ∷ xs) a b d long short e f g = absurd (omega arith)

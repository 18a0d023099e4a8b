-- Lists: what names no word of this project.
use Rattle.std.proofs.Common.{◌≡◌, ℕ, List, sym, nat_eq}
use Rattle.std.specs.Cmp.Lexicographic.{pointwise, bytes_decides}
use Rattle.std.proofs.lemmas.Bool.Decides.{same_from_decides, Decides-like}

-- a test of bytes, one by one, is the same either way round
pub either_way : (a b : List ℕ) → pointwise nat_eq a b ≡ pointwise nat_eq b a
either_way a b = same_from_decides _ _ (Decides-like _ (λ e. sym e) (λ e. sym e)
    (bytes_decides a b)) (bytes_decides b a)

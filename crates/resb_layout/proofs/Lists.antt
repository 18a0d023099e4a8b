-- Lists and options: what names no word of this project.
use Rattle.std.proofs.Common.{ℕ, List, [], ◌∷◌, map, Some, ◌≡◌, refl}

-- lists of which each number is there are equal where those numbers are
pub same_somes : (ps qs : List ℕ) → map Some ps ≡ map Some qs → ps ≡ qs
same_somes [] [] e = refl
same_somes [] (q ∷ qs) e = cc
same_somes (p ∷ ps) [] e = cc
same_somes (p ∷ ps) (q ∷ qs) e =
    let h : p ≡ q = cc in
    let t : map Some ps ≡ map Some qs = cc in
    let r = same_somes ps qs t in
    cc

-- The tree of a file that was counted.
use Rattle.std.proofs.Common.{◌≡◌, ℕ, sym, subst}
use Rattle.resb_tree.specs.Tree.{Tree}
use Rattle.resb_format.specs.Content.{word}
use Rattle.resb_format.specs.Denotes.{Den, den_word}
use Rattle.resb_format.specs.Parts.{Parts}
use Rattle.resb_opened.specs.Standing.{Denoted}

-- what the root of a file denotes, its parts denote that were read
pub root_denoted : (p q : Parts) (w v : ℕ) (t : Tree) (n : ℕ) → p ≡ q → w ≡ v → Den q v t n
    → Denoted p (word w) t
root_denoted p q w v t n same at d =
    ∣ (n, den_word (subst (λ r. Den r w t n) (sym same) (subst (λ u. Den q u t n) (sym at) d))) ∣₁

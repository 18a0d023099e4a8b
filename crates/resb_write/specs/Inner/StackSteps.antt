-- Laying a tree's resources one by one, over a stack of words: each takes its members' words and
-- puts its own.
--     LaysNext lent g s ws t e xs     the body of t is laid, behind its members' bodies
--     LaysRow lent g s ws ts e xs     those of resources in a row
use Rattle.std.specs.Prelude.{◌≡◌, ℕ, List, [], ◌∷◌, ◌++◌, length, Option}
use Rattle.resb_tree.specs.Tree.{Tree, trees_of}
use Rattle.resb_layout.specs.Laid.{Given, Lends, Laid, LaysBy, LaysEachBy}
use Rattle.resb_tree.specs.LayingOrder.{children}

-- where t's members are laid, with the words vs, its body makes it laid, with the word w
abbrev pub ClosesTree : Option Lends → Given → Laid → Tree → List ℕ → Laid → ℕ → Type 0
ClosesTree lent g s t vs e w =
    (before : Laid) → LaysEachBy lent g before (trees_of (children t)) s vs
    → LaysBy lent g before t e w

-- a resource's members' words are taken off the stack, its body is laid, and its own word is put
pub record LaysNext (lent : Option Lends) (g : Given) (s : Laid) (ws : List ℕ) (t : Tree)
    (e : Laid) (xs : List ℕ) : Type 0 where
  pub below : List ℕ
  pub members : List ℕ
  pub word : ℕ
  pub taken : ws ≡ below ++ members
  pub many : length members ≡ length (children t)
  pub put : xs ≡ below ++ word ∷ []
  pub closes : ClosesTree lent g s t members e word

-- so for resources in a row, one after another
pub data LaysRow (lent : Option Lends) (g : Given)
    : Laid → List ℕ → List Tree → Laid → List ℕ → Type 0 where
  row_none : {s : Laid} {ws : List ℕ} → LaysRow lent g s ws [] s ws
  row_more : {s m e : Laid} {ws xs ys : List ℕ} {t : Tree} {ts : List Tree}
      → LaysNext lent g s ws t m xs → LaysRow lent g m xs ts e ys
      → LaysRow lent g s ws (t ∷ ts) e ys

-- What is made of groups, and that it stays while more is made.
use Rattle.std.specs.Prelude.{◌≡◌, Bool, true}
use Rattle.resb_tree.specs.Tree.{Tree}

module _ {B X : Type 0} (tree : B → X → Tree) (held : B → X → Bool) where
  -- it is held, and stands for the tree
  abbrev pub Represents : B → X → Tree → Type 0
  Represents b x t = (tree b x ≡ t) × (held b x ≡ true)

  -- what was held is held still, and stands for the same tree
  abbrev pub Grows : B → B → Type 0
  Grows b d = (x : X) → held b x ≡ true → (tree d x ≡ tree b x) × (held d x ≡ true)

  -- something is made that stands for the tree, and what was held is so still
  abbrev pub Adds : B → B → X → Tree → Type 0
  Adds b d x t = Represents d x t × Grows b d

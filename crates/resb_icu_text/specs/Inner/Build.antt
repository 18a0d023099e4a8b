-- What is made of groups, and that it stays while more is made.
use Rattle.std.specs.Prelude.{◌≡◌, ℕ, true, List, map}
use Rattle.std.specs.Borrow.{Bor}
use Rattle.resb_tree.specs.Tree.{Tree}
use Rattle.resb_draft.specs.Drafts.{EndsInEntries}
use Rattle.resb_draft.specs.declared.draft.Draft.{Draft}
use Rattle.resb_icu_text.specs.Inner.Kept.{Test}
use Rattle.std.specs.Prelude.{Bool, length}

-- entries by the texts of their keys, with the trees of their values
abbrev pub pairs_by : {X : Type 0} → (X → Tree) → List (Bor (List ℕ) × X) → List (List ℕ × Tree)
pairs_by tree es = map (λ e. (e.0.now, tree e.1)) es

module _ {B X : Type 0} (tree : B → X → Tree) (held : B → X → Test → Bool) where
  -- what was held is held still, and stands for the same tree
  abbrev pub Grows : B → B → Type 0
  Grows b d = (x : X) (t : Test) → held b x t ≡ true
      → (tree d x ≡ tree b x) × (held d x t ≡ true)

  -- something is made that stands for the tree, and whose strings pass each test that those pass of
  -- which it is made; and what was held is so still
  abbrev pub Adds : B → B → X → Tree → (Test → Bool) → Type 0
  Adds b d x u passing =
      (tree d x ≡ u) × ((t : Test) → passing t ≡ true → held d x t ≡ true) × Grows b d

-- a draft is another one with the keys of these entries and the numbers of their values put behind
abbrev pub PutsBehind : Draft → List (Bor (List ℕ) × ℕ) → Draft → Type 0
PutsBehind before ps d =
    EndsInEntries before (length before.members.items) (length before.keys.items) ps d

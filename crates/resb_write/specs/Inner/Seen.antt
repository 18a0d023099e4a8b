-- Words of the steps: room for one body, and what it takes of it.
use Rattle.std.specs.Prelude.{◌≡◌, ℕ, ◌+◌, ◌-◌, ◌*◌, ◌%◌, ◌^◌, ◌<◌, ◌≤◌, List, [], ◌∷◌, length}
use Rattle.resb_tree.specs.Tree.{Tree}
use Rattle.resb_tree.specs.LayingOrder.{children}
use Rattle.resb_layout.specs.Laid.{Given}
use Rattle.resb_write.specs.Inner.Room.{laid_of, HasRoomFor}
use Rattle.resb_write.specs.declared.sites.Bodies.{Bodies}

-- wherever the keys and the strings stand, if the tail begins at byte n
abbrev pub Anywhere : ℕ → (Given → Type 0) → Type 0
Anywhere n P = (g : Given) → g.base ≡ n → P g

-- there is room for the body of a resource of so many members, pairs of numbers, eights of bytes
-- or fours of units
pub record HasRoom (base : ℕ) (b : Bodies) (n : ℕ) : Type 0 where
  pub aligned : (base + length b.tail.items) % 4 ≡ 0
  pub units : length b.units.items + (2 * n + 1) < 2 ^ 28
  pub bytes : base + length b.tail.items + (8 * n + 32) < 2 ^ 30

-- a body of such a resource takes no more
pub record TakesNoMore (base : ℕ) (b c : Bodies) (n : ℕ) : Type 0 where
  pub aligned : (base + length c.tail.items) % 4 ≡ 0
  pub units : length c.units.items ≤ length b.units.items + (2 * n + 1)
  pub bytes : length c.tail.items ≤ length b.tail.items + (8 * n + 32)

-- a stack of so many words has those of each resource's members when its turn comes
abbrev pub Suffices : ℕ → List Tree → Type 0
Suffices n [] = Unit {0}
Suffices n (t ∷ ts) = (length (children t) ≤ n) × Suffices (n - length (children t) + 1) ts

-- these resources can be laid, over a stack of n words
pub record CanLay (base : ℕ) (b : Bodies) (n : ℕ) (ts : List Tree) : Type 0 where
  pub room : HasRoomFor base (laid_of b) ts
  pub enough : Suffices n ts

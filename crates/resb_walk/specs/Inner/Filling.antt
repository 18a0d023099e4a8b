-- The entries of a table that is being made.
--     Gathers f es            f has these entries so far, and copies no bytes of the input
use Rattle.std.specs.Prelude.{ℕ, List, ◌≡◌, true}
use Rattle.resb_tree.specs.Tree.{Tree, map_of}
use Rattle.resb_tree.specs.View.{entries_view, pairs_view}
use Rattle.resb_walk.specs.Borrows.{entries_borrow}
use Rattle.resb_walk.specs.declared.filling.Filling.{Filling}
use Rattle.resb_walk.specs.declared.filling.Filling.TheVariants as filling

-- the entries so far: a map has the last one of each key, a list has all of them
abbrev pub Gathers : Filling → List (List ℕ × Tree) → Type 0
Gathers (filling.Map m) es =
    (entries_view m.entries ≡ map_of es) × (entries_borrow m.entries ≡ true)
Gathers (filling.List v) es = (pairs_view v.items ≡ es) × (entries_borrow v.items ≡ true)

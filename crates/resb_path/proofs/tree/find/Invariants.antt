use Rattle.std.proofs.Common.{◌≡◌, map, drop}
use Rattle.resb_tree.specs.View.{tree_of}
use Rattle.resb_path.specs.Finding.{spot_of, found_at, tree_spot}
use Rattle.resb_path.proofs.tree.find.Given as goal

abbrev pub invariant-loop-name : goal.invariant-loop-name
invariant-loop-name l =
    found_at (spot_of l.found) (map (λ name. name.now) (drop l.name-index l.path))
    ≡ found_at (tree_spot (tree_of l.root)) (map (λ name. name.now) l.path)

use Rattle.std.proofs.Common.{◌≡◌, map, drop}
use Rattle.resb_path.specs.Finding.{found_at, tree_spot}
use Rattle.resb_opened.specs.Handles.{tree_at}
use Rattle.resb_opened.specs.Paths.{spot_of}
use Rattle.resb_opened.proofs.handle.Handle.get.Given as goal

abbrev pub invariant-loop-name : goal.invariant-loop-name
invariant-loop-name l =
    found_at (spot_of l.found) (map (λ name. name.now) (drop l.name-index l.path))
    ≡ found_at (tree_spot (tree_at l.self)) (map (λ name. name.now) l.path)

use Rattle.std.proofs.Common.{◌≡◌, ℕ, map, drop}
use Rattle.resb_tree.specs.Tree.{Tree}
use Rattle.resb_format.specs.declared.error.ReadingError.{ReadingError}
use Rattle.resb_read.specs.Places.{place_of}
use Rattle.resb_read.specs.Resources.{DenPlace}
use Rattle.resb_path.specs.Finding.{Spot, tree_spot, found_at}
use Rattle.resb_path.specs.InFiles.{IsAt, place_at, FailsOnWay, HoldsOnWay}
use Rattle.resb_path.proofs.file.find_from.Given as goal

abbrev pub invariant-loop-name : goal.invariant-loop-name
invariant-loop-name l = record {
  way : place_at (place_of l.found) (map (λ name. name.now) (drop l.name-index l.path))
      ≡ place_at (place_of l.root) (map (λ name. name.now) l.path);
  fails : (e : ReadingError)
      → FailsOnWay (place_of l.found) (map (λ name. name.now) (drop l.name-index l.path)) e
      → FailsOnWay (place_of l.root) (map (λ name. name.now) l.path) e;
  holds : HoldsOnWay (place_of l.found) (map (λ name. name.now) (drop l.name-index l.path))
      → HoldsOnWay (place_of l.root) (map (λ name. name.now) l.path);
  tree : (t : Tree) (n : ℕ) → DenPlace (place_of l.root) t n
      → (s : Spot) × IsAt (place_of l.found) s
      × (found_at s (map (λ name. name.now) (drop l.name-index l.path))
      ≡ found_at (tree_spot t) (map (λ name. name.now) l.path));
}

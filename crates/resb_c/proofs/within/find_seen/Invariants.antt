use Rattle.std.proofs.Common.{◌≡◌, map, drop}
use Rattle.resb_path.specs.Finding.{Spot, found_at}
use Rattle.resb_c.specs.Opened.{Shows}
use Rattle.resb_c.proofs.within.find_seen.Given as goal

abbrev pub invariant-loop-name : goal.invariant-loop-name
invariant-loop-name l =
    (s : Spot) → Shows l.opened l.fn.from s → (x : Spot) × Shows l.opened l.found x
    × (found_at x (map (λ name. name.now) (drop l.name-index l.names))
    ≡ found_at s (map (λ name. name.now) l.names))

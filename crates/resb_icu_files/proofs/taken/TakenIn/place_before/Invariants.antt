-- The changes that are left go on from the place so far.
use Rattle.std.proofs.Common.{◌≡◌, drop}
use Rattle.std.specs.Prelude.{fold}
use Rattle.resb_icu_files.specs.Places.{place_by}
use Rattle.resb_icu_files.proofs.taken.TakenIn.place_before.Given as goal

abbrev pub invariant-loop-change : goal.invariant-loop-change
invariant-loop-change l =
    fold (place_by l.place) l.before (drop l.change-index l.change-items)
    ≡ fold (place_by l.place) l.place l.change-items

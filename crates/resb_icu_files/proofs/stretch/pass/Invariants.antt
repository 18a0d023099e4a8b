-- Whatever is passed from here on is passed from the start.
use Rattle.std.proofs.Common.{ℕ, ◌-◌, ◌≤◌, length}
use Rattle.resb_icu_files.specs.Stretches.{Stretch}
use Rattle.resb_icu_files.proofs.stretch.pass.Given as goal

abbrev pub invariant-stretch : goal.invariant-stretch
invariant-stretch l = record {
  order : l.from ≤ l.to;
  fits : l.to ≤ length l.text;
  low : l.deep ≤ l.to;
  so_far : (to last : ℕ) → Stretch l.text l.to l.deep to last
      → Stretch l.text l.from l.depth to last;
}

abbrev pub decreases-stretch : goal.decreases-stretch
decreases-stretch l = length l.text - l.to

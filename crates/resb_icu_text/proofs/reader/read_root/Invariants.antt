use Rattle.std.proofs.Common.{◌&&◌, ◌≤◌, ◌+◌, ◌*◌, ◌-◌, length}
use Rattle.resb_icu_grammar.specs.Machine.{at_root}
use Rattle.resb_icu_text.specs.Inner.Quota.{GoesOn}
use Rattle.resb_icu_text.specs.Inner.Steps.{now, stands_at, progress, spent}
use Rattle.resb_icu_text.specs.Inner.Reach.{reach}
use Rattle.resb_icu_text.specs.Inner.Reading.{groups, keys}
use Rattle.resb_icu_text.specs.Inner.Kept.{IsKept, groups_pass, step_passes}
use Rattle.resb_icu_text.proofs.reader.read_root.Given as goal

abbrev pub invariant-steps : goal.invariant-steps
invariant-steps g l = let b = l.open.build in record {
  within : stands_at l.step ≤ length l.text;
  comes : GoesOn l.text l.fn.meter.quota l.meter.quota (at_root l.first)
      (now (g.B.Build.tree b) (groups (g.B.Build.tree b) l.open) (keys l.open) l.step);
  kept : IsKept l.text (λ t. groups_pass l.open (g.B.Build.held b) t
      && step_passes l.step (g.B.Build.held b) t);
  cost : l.meter.turns.count + 8 * reach l.text l.first + 2 + length (keys l.open)
      ≤ l.fn.meter.turns.count + spent l.text l.step;
}

abbrev pub decreases-steps : goal.decreases-steps
decreases-steps g l = 3 * length l.text + 3 - progress l.step

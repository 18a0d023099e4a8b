use Rattle.std.proofs.Common.{◌≡◌, ◌<◌, [], ℕ, get_or, length}
use Rattle.resb_pool.specs.Plan.{nows}
use Rattle.resb_lent.specs.Inner.Chosen.{IsChosen}
use Rattle.resb_lent.specs.declared.texts.Standing.{Standing}
use Rattle.resb_lent.proofs.answers_beside.find_others.Given as goal

abbrev pub invariant-loop-at : goal.invariant-loop-at
invariant-loop-at l = record {
  len : length l.others.items ≡ l.at;
  each : (i : ℕ) (d : Standing) → i < l.at → IsChosen l.marks (get_or (nows l.strings) i [])
      (get_or l.standings i d) (get_or (nows l.others.items) i []);
}

use Rattle.std.proofs.Common.{◌≡◌, ◌<◌, [], ℕ, get_or}
use Rattle.resb_pool.specs.Plan.{nows}
use Rattle.resb_lent.specs.Inner.Chosen.{IsMarked}
use Rattle.resb_lent.specs.declared.texts.Standing.{Standing}
use Rattle.resb_lent.specs.declared.texts.Standing.TheVariants.{End}
use Rattle.resb_lent.proofs.answers_beside.end_marks.Given as goal

abbrev pub invariant-loop-at : goal.invariant-loop-at
invariant-loop-at l = (i : ℕ) (d : Standing) → i < l.at → get_or l.standings i d ≡ End
    → IsMarked l.marks (get_or (nows l.strings) i [])

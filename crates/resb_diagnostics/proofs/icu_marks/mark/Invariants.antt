-- What was found, and how far the text was looked at: nothing stands behind the root there.
use Rattle.std.proofs.Common.{◌≡◌, ◌++◌, false}
use Rattle.resb_diagnostics.specs.IcuMarks.{icu_marked, has_more}
use Rattle.resb_diagnostics.specs.Inner.Marks.{IsMarkedTo}
use Rattle.resb_diagnostics.proofs.icu_marks.mark.Given as goal

abbrev pub invariant-bytes : goal.invariant-bytes
invariant-bytes l = record {
  marks : IsMarkedTo l.text l.at l.marks;
  none : has_more l.text l.at ≡ false;
  found : l.found.items ≡ l.fn.found.items ++ icu_marked l.text l.at;
}

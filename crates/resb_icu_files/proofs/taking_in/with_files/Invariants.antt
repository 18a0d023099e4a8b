-- What is made of the rest of the text is made of the whole, and what is missed in it is missed in
-- the whole.
use Rattle.std.proofs.Common.{ℕ, List, ◌-◌, ◌≤◌, length}
use Rattle.std.specs.Str.{IsCharBoundary}
use Rattle.resb_icu_files.specs.Inner.Making.{output_of}
use Rattle.resb_icu_files.specs.TakenIn.{Taken, FaultFrom}
use Rattle.resb_icu_files.specs.Writing.{Output, no_output, Fault}
use Rattle.resb_icu_files.proofs.taking_in.with_files.Given as goal

abbrev pub invariant-groups : goal.invariant-groups
invariant-groups l = record {
  fits : l.from ≤ length l.text;
  low : l.depth ≤ l.from;
  begins : IsCharBoundary l.text l.from;
  taken : (end : Output) → Taken l.files l.text l.from l.depth (output_of l.making) end
      → Taken l.files l.text 0 0 no_output end;
  faults : (fault : Fault) (place : ℕ) (name : List ℕ)
      → FaultFrom l.files l.text fault place name l.from l.depth
      → FaultFrom l.files l.text fault place name 0 0;
}

abbrev pub decreases-groups : goal.decreases-groups
decreases-groups l = length l.text - l.from

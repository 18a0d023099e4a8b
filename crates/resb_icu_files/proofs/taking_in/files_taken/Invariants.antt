-- The files so far, and those that the rest takes in, are those of the text.
use Rattle.std.proofs.Common.{List, ◌++◌, ◌-◌, ◌≤◌, length, map}
use Rattle.resb_icu_files.specs.TakenIn.{TakesFiles, named_of}
use Rattle.resb_icu_files.specs.Writing.{Named}
use Rattle.resb_icu_files.proofs.taking_in.files_taken.Given as goal

abbrev pub invariant-groups : goal.invariant-groups
invariant-groups l = record {
  fits : l.from ≤ length l.text;
  low : l.depth ≤ l.from;
  takes : (rest : List Named) → TakesFiles l.text l.from l.depth rest
      → TakesFiles l.text 0 0 (map named_of l.files.items ++ rest);
}

abbrev pub decreases-groups : goal.decreases-groups
decreases-groups l = length l.text - l.from

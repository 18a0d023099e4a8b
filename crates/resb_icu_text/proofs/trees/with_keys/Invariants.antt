use Rattle.std.proofs.Common.{◌≡◌, ◌++◌}
use Rattle.std.specs.Vec.Iter.{into_iter_items}
use Rattle.resb_icu_text.proofs.DistinctLemmas.{keyed}
use Rattle.resb_icu_text.proofs.trees.with_keys.Given as goal

abbrev pub invariant-loop-entry : goal.invariant-loop-entry
invariant-loop-entry l = record {
  made : l.keyed.items ++ keyed (into_iter_items l.entry-iterator)
      ≡ keyed (into_iter_items l.initial.entry-iterator);
}

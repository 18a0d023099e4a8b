use Rattle.std.proofs.Common.{◌≡◌, ◌≤◌, List, Bool, true, false, length}
use Rattle.std.specs.Prelude.{map, take, slice_index_or}
use Rattle.resb_text.specs.Inner.Discovered.{text_in_group, left_of}
use Rattle.resb_text.proofs.discovered.count_before.Given as goal

abbrev pub invariant-loop-count : goal.invariant-loop-count
invariant-loop-count l = record {
  left : (ds : List Bool) → slice_index_or ds l.group false ≡ true
      → left_of ds (map text_in_group (take l.count l.candidates))
      ≡ left_of ds (map text_in_group l.candidates);
  within : l.count ≤ length l.candidates;
}

abbrev pub decreases-loop-count : goal.decreases-loop-count
decreases-loop-count l = l.count

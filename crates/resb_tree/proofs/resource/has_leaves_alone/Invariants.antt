-- What is still to be looked at decides.
use Rattle.std.proofs.Common.{◌≤◌}
use Rattle.std.specs.BTreeMap.{values}
use Rattle.resb_tree.specs.Inner.Dropping.{depth_of}
use Rattle.resb_tree.proofs.resource.has_leaves_alone.Given as goal

abbrev pub invariant-loop-value : goal.invariant-loop-value
invariant-loop-value l = depth_of l.value-iterator ≤ 1 → depth_of (values l.fn.table) ≤ 1

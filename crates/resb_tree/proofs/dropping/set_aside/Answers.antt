use Rattle.std.proofs.Common.{arith}
use Rattle.resb_tree.proofs.DroppingLemmas.{drop_steps}
use Rattle.resb_tree.proofs.dropping.set_aside.Goals as goal

pub drop_empty-requires : goal.drop_empty-requires
drop_empty-requires c = grind (arith, drop_steps)

pub returns-then-has_no_members : goal.returns-then-has_no_members
returns-then-has_no_members c = grind (arith, drop_steps)

pub returns-then-is_err : goal.returns-then-is_err
returns-then-is_err c = grind (arith, drop_steps)

pub push_reserved-requires : goal.push_reserved-requires
push_reserved-requires c = grind (arith, drop_steps)

pub returns : goal.returns
returns c = grind (arith, drop_steps)

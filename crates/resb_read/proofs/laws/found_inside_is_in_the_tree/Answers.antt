use Rattle.resb_read.proofs.InsideTrees.{entries_stand_inside, members_stand_inside}
use Rattle.resb_read.proofs.InsideTrees.{numbers_stand_inside, types_tell_trees}
use Rattle.resb_read.proofs.laws.found_inside_is_in_the_tree.Goals as goal

pub returns-clause-entries : goal.returns-clause-entries
returns-clause-entries c = entries_stand_inside

pub returns-clause-members : goal.returns-clause-members
returns-clause-members c = members_stand_inside

pub returns-clause-numbers : goal.returns-clause-numbers
returns-clause-numbers c = numbers_stand_inside

pub returns-clause-types : goal.returns-clause-types
returns-clause-types c = types_tell_trees

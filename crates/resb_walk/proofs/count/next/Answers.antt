use Rattle.std.proofs.lemmas.Result.{err_from_is_err_and}
use Rattle.resb_tree.specs.Tree.{array, table, trees_of, map_of}
use Rattle.resb_format.specs.Parts.{parts_in}
use Rattle.resb_walk.specs.Inner.Counting.{no_list, no_table}
use Rattle.resb_walk.specs.Inner.Members.{member_of}
use Rattle.resb_walk.proofs.Paths.{key_stuck, key_meets}
use Rattle.resb_walk.proofs.Waits.{waiting_list_ends, waiting_table_ends}
use Rattle.resb_walk.proofs.count.next.Goals as goal

pub returns-in_err-key-in-Some-split-clause-takes :
    goal.returns-in_err-key-in-Some-split-clause-takes
returns-in_err-key-in-Some-split-clause-takes c = λ w n h.
    let e = err_from_is_err_and c.from_residual.result c.from_residual.ensures.1 in
    let o = rw c.in-Table.is at h in
    rw (e.1, e.2) (key_stuck (parts_in c.args.checker.now.file) c.in-Table.entries
    c.in-Some-split.rest c.in-Some-split.position (member_of c.in-Some-split.member) w n
    c.in_err-key-in-Some-split.field-0.0 o c.in-Some-split.ensures
    c.in_err-key-in-Some-split.ensures.looks)

pub returns-in_err-key-in-Some-split-clause-meets :
    goal.returns-in_err-key-in-Some-split-clause-meets
returns-in_err-key-in-Some-split-clause-meets c = λ w n h.
    let e = err_from_is_err_and c.from_residual.result c.from_residual.ensures.1 in
    let o = rw c.in-Table.is at h in
    rw (e.1, e.2) (key_meets (parts_in c.args.checker.now.file) c.in-Table.entries
    c.in-Some-split.rest c.in-Some-split.position (member_of c.in-Some-split.member) w n
    c.in_err-key-in-Some-split.field-0.0 o c.in-Some-split.ensures
    c.in_err-key-in-Some-split.ensures.looks)

pub returns-in-None-clause-takes : goal.returns-in-None-clause-takes
returns-in-None-clause-takes c = λ w n h.
    let o = rw c.in-List.is at h in (
      array (trees_of o.trees),
      waiting_list_ends no_list no_table
          (parts_in c.args.checker.now.file) c.in-List.members 0 w n o
          c.in-None.ensures,
    )

pub returns-in-None-split-clause-takes : goal.returns-in-None-split-clause-takes
returns-in-None-split-clause-takes c = λ w n h.
    let o = rw c.in-Table.is at h in (
      table (map_of o.entries),
      waiting_table_ends no_list no_table
          (parts_in c.args.checker.now.file) c.in-Table.entries 0 w n o
          c.in-None-split.ensures,
    )

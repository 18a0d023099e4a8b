use Rattle.std.proofs.Common.{inr}
use Rattle.std.proofs.lemmas.Result.{err_from_is_err_and}
use Rattle.resb_tree.specs.Tree.{array, table, trees_of, map_of}
use Rattle.resb_format.specs.Parts.{parts_in}
use Rattle.resb_walk.proofs.Meeting.{table_meets}
use Rattle.resb_walk.proofs.Waits.{waiting_list_ends, waiting_table_ends, table_no_key}
use Rattle.resb_walk.proofs.frame.advance.Goals as goal

pub returns-in-None-clause-steps : goal.returns-in-None-clause-steps
returns-in-None-clause-steps g c = λ w n h.
    let o = rw c.in-List.is at h in (
      array (trees_of o.trees),
      waiting_list_ends g.M.Make.lists g.M.Make.tables
          (parts_in c.args.file) c.in-List.rest c.in-List.made w n o c.in-None.ensures,
      c.end_list.ensures o.trees o.is_made,
    )

pub returns-in_err-key-in-Some-split-clause-steps
    : goal.returns-in_err-key-in-Some-split-clause-steps
returns-in_err-key-in-Some-split-clause-steps g c = λ w n h.
    let o = rw c.in-Table.is at h in
    let p = err_from_is_err_and c.from_residual.result c.from_residual.ensures.1 in
    rw (p.1, p.2) (inr (
      c.in_err-key-in-Some-split.ensures.stands.1,
      table_no_key g.M.Make.lists g.M.Make.tables (parts_in c.args.file) c.in-Table.rest
          c.in-Some-split.rest c.in-Some-split.position _ c.in-Table.made w n o
          c.in-Some-split.ensures c.in_err-key-in-Some-split.ensures.stands.0,
    ))

pub returns-in_ok-end_table-in-None-split-clause-steps
    : goal.returns-in_ok-end_table-in-None-split-clause-steps
returns-in_ok-end_table-in-None-split-clause-steps g c = λ w n h.
    let o = rw c.in-Table.is at h in (
      table (map_of o.entries),
      waiting_table_ends g.M.Make.lists g.M.Make.tables
          (parts_in c.args.file) c.in-Table.rest c.in-Table.made w n o c.in-None-split.ensures,
      c.in_ok-end_table-in-None-split.ensures o.entries o.is_made,
    )

pub returns-in_err-key-in-Some-split-clause-meets
    : goal.returns-in_err-key-in-Some-split-clause-meets
returns-in_err-key-in-Some-split-clause-meets g c = λ w n h.
    let o = rw c.in-Table.is at h in
    let p = err_from_is_err_and c.from_residual.result c.from_residual.ensures.1 in
    rw (p.1, p.2) (λ f. rw c.in_err-key-in-Some-split.ensures.says
    (table_meets (parts_in c.args.file) g.M.Make.lists g.M.Make.tables c.in-Table.rest
    c.in-Some-split.rest c.in-Some-split.position _ c.in-Table.made w n o
    c.in-Some-split.ensures c.in_err-key-in-Some-split.ensures.stands.0))

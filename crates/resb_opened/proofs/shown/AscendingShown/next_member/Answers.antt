use Rattle.std.proofs.Common.{◌∙◌, ap, sym}
use Rattle.resb_tree.specs.Tree.{more_trees, trees_of}
use Rattle.resb_format.specs.Parts.{parts_in}
use Rattle.resb_walk.specs.Inner.Members.{member_of, members_of}
use Rattle.resb_opened.proofs.AheadLemmas.{next_each, no_each, first_of_all, rest_of_all}
use Rattle.resb_opened.proofs.shown.AscendingShown.next_member.Goals as goal

pub returns-in_err-member : goal.returns-in_err-member
returns-in_err-member c =
    let ahead = c.args.ahead.now in
    rw c.from_residual.ensures (ap trees_of (no_each (parts_in ahead.file.now.parts)
    (members_of ahead.rest) ahead.stand c.in_err-member.ensures))

pub at-requires-clause-stand : goal.at-requires-clause-stand
at-requires-clause-stand c =
    let ahead = c.args.ahead.now in
    (next_each (parts_in ahead.file.now.parts) (members_of ahead.rest) ahead.stand
    (member_of c.in_ok-member.member) (members_of c.in_ok-member.rest)
    c.in_ok-member.ensures).1

pub at-requires-clause-ordered : goal.at-requires-clause-ordered
at-requires-clause-ordered c =
    let ahead = c.args.ahead.now in
    rest_of_all (parts_in ahead.file.now.parts) (members_of ahead.rest)
    (member_of c.in_ok-member.member) (members_of c.in_ok-member.rest) c.in_ok-member.ensures
    ahead.ordered

pub at-requires-2-clause-stands : goal.at-requires-2-clause-stands
at-requires-2-clause-stands c =
    let ahead = c.args.ahead.now in
    (next_each (parts_in ahead.file.now.parts) (members_of ahead.rest) ahead.stand
    (member_of c.in_ok-member.member) (members_of c.in_ok-member.rest)
    c.in_ok-member.ensures).0

pub at-requires-2-clause-ordered : goal.at-requires-2-clause-ordered
at-requires-2-clause-ordered c = λ _.
    let ahead = c.args.ahead.now in
    first_of_all (parts_in ahead.file.now.parts) (members_of ahead.rest)
    (member_of c.in_ok-member.member) (members_of c.in_ok-member.rest) c.in_ok-member.ensures
    ahead.ordered

pub invariant_of-result : goal.invariant_of-result
invariant_of-result c = record { ascends = c.at-2.ensures.file ∙ c.args.ahead.now.ascends }

pub returns : goal.returns
returns c =
    let ahead = c.args.ahead.now in
    let (s, r, is) = next_each (parts_in ahead.file.now.parts) (members_of ahead.rest) ahead.stand
    (member_of c.in_ok-member.member) (members_of c.in_ok-member.rest) c.in_ok-member.ensures in
    ap trees_of is ∙ (λ i. more_trees (sym (c.at-2.ensures.tree s.0 s.1) i)
    (sym (c.at.ensures r.0 r.1) i))

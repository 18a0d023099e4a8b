use Rattle.std.proofs.Common.{◌∙◌, ap, sym, map}
use Rattle.resb_tree.specs.Tree.{entry, entries_of}
use Rattle.resb_format.specs.Parts.{parts_in}
use Rattle.resb_walk.specs.Inner.Members.{member_of, keyed_members}
use Rattle.resb_opened.proofs.AheadLemmas.{next_pair, never_unkeyed, no_pairs}
use Rattle.resb_opened.proofs.AheadLemmas.{first_of_all, rest_of_all}
use Rattle.resb_opened.proofs.shown.AscendingShown.next_entry.Goals as goal

pub returns-in_err-position : goal.returns-in_err-position
returns-in_err-position c =
    let ahead = c.args.ahead.now in
    rw c.from_residual.ensures (ap entries_of (no_pairs (parts_in ahead.file.now.parts)
    (keyed_members ahead.rest) ahead.stand c.in_err-position.ensures))

pub unreachable-requires : goal.unreachable-requires
unreachable-requires c =
    let ahead = c.args.ahead.now in
    never_unkeyed (parts_in ahead.file.now.parts) (keyed_members ahead.rest) ahead.stand
    c.in_ok-position.position (member_of c.in_ok-position.member)
    (keyed_members c.in_ok-position.rest) c.in_ok-position.ensures c.in_default.ensures.stands.0

pub at-requires-clause-stand : goal.at-requires-clause-stand
at-requires-clause-stand c =
    let ahead = c.args.ahead.now in
    (next_pair (parts_in ahead.file.now.parts) (keyed_members ahead.rest) ahead.stand
    c.in_ok-position.position (member_of c.in_ok-position.member)
    (keyed_members c.in_ok-position.rest) c.in_ok-position.ensures c.in-Ok.key.now
    c.in-Ok.ensures.stands).1

pub at-requires-clause-ordered : goal.at-requires-clause-ordered
at-requires-clause-ordered c =
    let ahead = c.args.ahead.now in
    rest_of_all (parts_in ahead.file.now.parts) (map (λ e. e.1) (keyed_members ahead.rest))
    (member_of c.in_ok-position.member) (map (λ e. e.1) (keyed_members c.in_ok-position.rest))
    (ap (map (λ e. e.1)) c.in_ok-position.ensures) ahead.ordered

pub at-requires-2-clause-stands : goal.at-requires-2-clause-stands
at-requires-2-clause-stands c =
    let ahead = c.args.ahead.now in
    (next_pair (parts_in ahead.file.now.parts) (keyed_members ahead.rest) ahead.stand
    c.in_ok-position.position (member_of c.in_ok-position.member)
    (keyed_members c.in_ok-position.rest) c.in_ok-position.ensures c.in-Ok.key.now
    c.in-Ok.ensures.stands).0

pub at-requires-2-clause-ordered : goal.at-requires-2-clause-ordered
at-requires-2-clause-ordered c = λ _.
    let ahead = c.args.ahead.now in
    first_of_all (parts_in ahead.file.now.parts) (map (λ e. e.1) (keyed_members ahead.rest))
    (member_of c.in_ok-position.member) (map (λ e. e.1) (keyed_members c.in_ok-position.rest))
    (ap (map (λ e. e.1)) c.in_ok-position.ensures) ahead.ordered

pub invariant_of-result : goal.invariant_of-result
invariant_of-result c = record { ascends = c.at-2.ensures.file ∙ c.args.ahead.now.ascends }

pub returns : goal.returns
returns c =
    let ahead = c.args.ahead.now in
    let (s, r, is) = next_pair (parts_in ahead.file.now.parts) (keyed_members ahead.rest)
    ahead.stand c.in_ok-position.position (member_of c.in_ok-position.member)
    (keyed_members c.in_ok-position.rest) c.in_ok-position.ensures c.in-Ok.key.now
    c.in-Ok.ensures.stands in
    ap entries_of is ∙ (λ i. entry c.in-Ok.key.now (sym (c.at-2.ensures.tree s.0 s.1) i)
    (sym (c.at.ensures r.0 r.1) i))

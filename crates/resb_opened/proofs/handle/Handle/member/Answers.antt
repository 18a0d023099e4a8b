use Rattle.std.proofs.Common.{◌∙◌, ap, sym, Some}
use Rattle.std.specs.Prelude.{option_map}
use Rattle.resb_format.specs.Parts.{parts_in}
use Rattle.resb_walk.specs.Inner.Members.{member_of, members_of}
use Rattle.resb_opened.specs.Handles.{tree_at, members_in}
use Rattle.resb_opened.proofs.InsideLemmas.{member_ordered}
use Rattle.resb_opened.proofs.StandingLemmas.{stands_at, nothing_at}
use Rattle.resb_opened.proofs.handle.Handle.member.Goals as goal

pub returns-in_err-at : goal.returns-in_err-at
returns-in_err-at c =
    let self = c.args.self in
    ap (option_map tree_at) c.from_residual.ensures
    ∙ sym (nothing_at (parts_in self.file.now.parts) (members_of c.in-List.members)
    (members_in (tree_at self)) c.in-List.ensures.holds.1 c.args.number
    (sym c.in_err-at.ensures))

pub at-requires-clause-stands : goal.at-requires-clause-stands
at-requires-clause-stands c =
    let self = c.args.self in
    (stands_at (parts_in self.file.now.parts) (members_of c.in-List.members)
    (members_in (tree_at self)) c.in-List.ensures.holds.1 c.args.number
    (member_of c.in_ok-at.at) (sym c.in_ok-at.ensures)).0

pub at-requires-clause-ordered : goal.at-requires-clause-ordered
at-requires-clause-ordered c = λ ascends.
    let self = c.args.self in
    member_ordered (parts_in self.file.now.parts) (member_of self.at) (tree_at self)
    self.stands.1 (members_of c.in-List.members) c.in-List.ensures.content
    c.in-List.ensures.holds c.args.number (member_of c.in_ok-at.at) (sym c.in_ok-at.ensures)
    (self.ordered ascends)

pub returns : goal.returns
returns c =
    let self = c.args.self in
    let (s, is) = stands_at (parts_in self.file.now.parts) (members_of c.in-List.members)
    (members_in (tree_at self)) c.in-List.ensures.holds.1 c.args.number
    (member_of c.in_ok-at.at) (sym c.in_ok-at.ensures) in
    ap Some (c.at.ensures.tree s.0 s.1) ∙ sym is

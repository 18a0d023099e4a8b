use Rattle.std.proofs.Common.{◌∙◌, ap, sym, Some}
use Rattle.std.specs.Prelude.{option_map}
use Rattle.resb_format.specs.Parts.{parts_in}
use Rattle.resb_walk.specs.Inner.Members.{member_of, keyed_members}
use Rattle.resb_read.specs.Places.{place_of}
use Rattle.resb_read.specs.Tables.{keys_ascend, last_named}
use Rattle.resb_opened.specs.Handles.{tree_at}
use Rattle.resb_opened.proofs.InsideLemmas.{keys_ordered, nothing_stands, value_stands}
use Rattle.resb_opened.proofs.InsideLemmas.{value_ordered, spot_is, never_elsewhere}
use Rattle.resb_opened.proofs.handle.Handle.named.Goals as goal

pub entry_named-requires : goal.entry_named-requires
entry_named-requires c = λ ascends.
    let self = c.args.self in
    ap keys_ascend c.of-table.ensures
    ∙ keys_ordered (parts_in self.file.now.parts) (member_of self.at) (tree_at self)
    self.stands.1 (keyed_members c.in-Table.entries) c.in-Table.ensures.content
    c.in-Table.ensures.holds (self.ordered ascends)

pub returns-in_err-found : goal.returns-in_err-found
returns-in_err-found c =
    let self = c.args.self in
    let name = c.args.name.now in
    ap (option_map tree_at) c.from_residual.ensures
    ∙ sym (nothing_stands (parts_in self.file.now.parts) (member_of self.at) (tree_at self)
    self.stands.1 (keyed_members c.in-Table.entries) c.in-Table.ensures.content
    c.in-Table.ensures.holds name
    (sym (c.in_err-found.ensures ∙ ap (last_named name) c.of-table.ensures)))

pub returns-in_err-at : goal.returns-in_err-at
returns-in_err-at c =
    let name = c.args.name.now in
    never_elsewhere (parts_in c.args.self.file.now.parts) (keyed_members c.in-Table.entries) name
    (place_of c.in_ok-found.found)
    (sym (c.in_ok-found.ensures ∙ ap (last_named name) c.of-table.ensures)) c.spot.result
    c.spot.ensures c.in_err-at.ensures

pub at-requires-clause-stands : goal.at-requires-clause-stands
at-requires-clause-stands c =
    let self = c.args.self in
    let name = c.args.name.now in
    let p = parts_in self.file.now.parts in
    let es = keyed_members c.in-Table.entries in
    let q = place_of c.in_ok-found.found in
    let e = sym (c.in_ok-found.ensures ∙ ap (last_named name) c.of-table.ensures) in
    let x = member_of c.in_ok-at.at in
    (value_stands p (member_of self.at) (tree_at self) self.stands.1 es
    c.in-Table.ensures.content c.in-Table.ensures.holds name q e x
    (spot_is p es name q e c.spot.result c.spot.ensures x c.in_ok-at.ensures)).0

pub at-requires-clause-ordered : goal.at-requires-clause-ordered
at-requires-clause-ordered c = λ ascends.
    let self = c.args.self in
    let name = c.args.name.now in
    let p = parts_in self.file.now.parts in
    let es = keyed_members c.in-Table.entries in
    let q = place_of c.in_ok-found.found in
    let e = sym (c.in_ok-found.ensures ∙ ap (last_named name) c.of-table.ensures) in
    let x = member_of c.in_ok-at.at in
    value_ordered p (member_of self.at) (tree_at self) self.stands.1 es
    c.in-Table.ensures.content c.in-Table.ensures.holds name q e x
    (spot_is p es name q e c.spot.result c.spot.ensures x c.in_ok-at.ensures)
    (self.ordered ascends)

pub returns : goal.returns
returns c =
    let self = c.args.self in
    let name = c.args.name.now in
    let p = parts_in self.file.now.parts in
    let es = keyed_members c.in-Table.entries in
    let q = place_of c.in_ok-found.found in
    let e = sym (c.in_ok-found.ensures ∙ ap (last_named name) c.of-table.ensures) in
    let x = member_of c.in_ok-at.at in
    let (s, is) = value_stands p (member_of self.at) (tree_at self) self.stands.1 es
    c.in-Table.ensures.content c.in-Table.ensures.holds name q e x
    (spot_is p es name q e c.spot.result c.spot.ensures x c.in_ok-at.ensures) in
    ap Some (c.at.ensures.tree s.0 s.1) ∙ sym is

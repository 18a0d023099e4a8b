use Rattle.std.proofs.Common.{◌≡◌, ◌∷◌, map, ap, sym, ◌∙◌}
use Rattle.resb_format.specs.Parts.{parts_in}
use Rattle.resb_walk.specs.Inner.Members.{member_of, keyed_members}
use Rattle.resb_read.specs.Access.{EntryAccess}
use Rattle.resb_read.specs.Sequences.{at_spot, at_entry}
use Rattle.resb_read.specs.declared.cursor.Spot.TheVariants as spot
use Rattle.resb_read.proofs.PlainLists.{map_first, some_first}
use Rattle.resb_read.proofs.entries.MapAccess.first.Goals as goal

pub returns : goal.returns
returns c =
    let p = parts_in c.self.inside.file in
    let key = at_spot p (spot.Key c.in_ok-position.position) in
    let value = at_spot p c.spot_of.result in
    let later = map (at_entry p) (keyed_members c.in_ok-position.field-0-2) in
    let seen = ap (λ (a : EntryAccess). a.rest) c.self.view_is in
    let each = map_first (at_entry p) (keyed_members c.self.inside.rest)
    (c.in_ok-position.position, member_of c.in_ok-position.member)
    (keyed_members c.in_ok-position.field-0-2) c.in_ok-position.ensures in
    let first : c.args.self.now.rest ≡ (key, value) ∷ later =
    rw c.spot_of.ensures (sym seen ∙ each) in
    some_first c.args.self.now.rest (key, value) later first

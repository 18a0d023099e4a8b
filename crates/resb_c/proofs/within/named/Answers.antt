use Rattle.std.proofs.Common.{ap, sym, ◌∙◌, refl, map, Some}
use Rattle.resb_read.specs.Places.{place_of}
use Rattle.resb_read.specs.Sequences.{at_spot, at_entry}
use Rattle.resb_read.specs.Tables.{keys_ascend, last_named}
use Rattle.resb_walk.specs.Inner.Members.{keyed_members}
use Rattle.resb_opened.proofs.NamedLemmas.{named_member}
use Rattle.resb_c.specs.Opened.{parts_of}
use Rattle.resb_c.proofs.NamedLemmas.{member_no_key}
use Rattle.resb_c.proofs.within.named.Goals as goal

pub returns-in-Some : goal.returns-in-Some
returns-in-Some c = λ asc.
    let p = parts_of c.args.opened.now in
    let es = keyed_members c.args.entries in
    let name = c.args.name.now in
    let view = c.of-table.ensures ∙ ap (λ q. map (at_entry q) es) c.parts.ensures in
    let told = c.in-Some.ensures
    (λ yes. ap keys_ascend view ∙ asc (sym c.ascends.ensures ∙ yes)) in
    let h = sym (told ∙ ap (last_named name) view) in
    let (x, is, each) = named_member p name es (place_of c.in-Some.found) h in
    let at = c.spot.ensures ∙ ap (λ q. q.at) is in
    let found = c.of_spot.ensures (member_no_key x c.spot.result at) ∙ at in
    h ∙ ap Some (is ∙ ap (at_spot p) (sym found))

pub returns-in-None : goal.returns-in-None
returns-in-None c = λ asc.
    let es = keyed_members c.args.entries in
    let view = c.of-table.ensures ∙ ap (λ q. map (at_entry q) es) c.parts.ensures in
    let told = c.in-None.ensures
    (λ yes. ap keys_ascend view ∙ asc (sym c.ascends.ensures ∙ yes)) in
    (sym (told ∙ ap (last_named c.args.name.now) view), refl)

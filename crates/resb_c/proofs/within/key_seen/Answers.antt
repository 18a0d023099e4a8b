use Rattle.std.proofs.Common.{ap, sym, subst, ◌∙◌, Some}
use Rattle.resb_walk.specs.Inner.Members.{content_of, keyed_members}
use Rattle.resb_c.specs.AtPlaces.{HasKey}
use Rattle.resb_c.specs.Inner.Keys.{HasNoKeyIn}
use Rattle.resb_c.specs.Shown.{GivesKeyOf}
use Rattle.resb_c.proofs.SeenLemmas.{key_given, key_lacking}
use Rattle.resb_c.proofs.within.key_seen.Goals as goal

pub returns-in-Ok : goal.returns-in-Ok
returns-in-Ok c = λ s shows.
    let o = c.args.opened.now in
    let r = c.args.resource in
    let k = c.args.number in
    let es = keyed_members c.in-Table.entries in
    let h = c.in_ok-there.ensures.ok ∙ ap (λ x. Some (content_of x)) c.in-Table.is in
    let has = subst (λ p. HasKey p k c.in-Ok.key.now es) c.parts.ensures c.in-Ok.ensures.ok in
    subst (GivesKeyOf o r k s) (sym c.as_bytes.ensures.value)
    (key_given o r k es c.in-Ok.key.now h has s shows)

pub returns-in-Err : goal.returns-in-Err
returns-in-Err c = λ s shows.
    let es = keyed_members c.in-Table.entries in
    let h = c.in_ok-there.ensures.ok ∙ ap (λ x. Some (content_of x)) c.in-Table.is in
    key_lacking c.args.opened.now c.args.resource c.args.number es c.in-Err.e h
    (subst (λ p. HasNoKeyIn p c.args.number c.in-Err.e es) c.parts.ensures c.in-Err.ensures.err)
    s shows

use Rattle.std.proofs.Common.{ap, ◌∙◌, Some}
use Rattle.resb_walk.specs.Inner.Members.{content_of, keyed_members}
use Rattle.resb_c.proofs.NamedLemmas.{no_table_value, value_told}
use Rattle.resb_c.proofs.within.value_seen.Goals as goal

pub returns : goal.returns
returns c = λ s shows.
    let es = keyed_members c.in-Table.entries in
    value_told c.args.opened.now c.args.resource c.args.name.now es c.named.result
    (c.in_ok-there.ensures.ok ∙ ap (λ x. Some (content_of x)) c.in-Table.is)
    c.named.ensures s shows

pub returns-in_default : goal.returns-in_default
returns-in_default c = λ s shows.
    no_table_value c.args.opened.now c.args.resource c.args.name.now c.in_ok-there.there
    c.in_ok-there.ensures.ok c.in_default.not-Table s shows

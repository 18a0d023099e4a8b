use Rattle.resb_walk.specs.Inner.Members.{content_of}
use Rattle.resb_c.proofs.WithinLemmas.{member_told}
use Rattle.resb_c.proofs.within.member_seen.Goals as goal

pub returns : goal.returns
returns c = λ s shows.
    member_told c.args.opened.now c.args.resource c.args.number (content_of c.in_ok-there.there)
    c.inside.result c.in_ok-there.ensures.ok c.inside.ensures s shows

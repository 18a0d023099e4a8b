use Rattle.std.proofs.Common.{◌<◌, length, get_or, sym, subst}
use borrow.Author.Tests.{ltb-true}
use Rattle.resb_lent.specs.Inner.LentEndings.{StandsAs}
use Rattle.resb_lent.proofs.EarlierCopies.{stood}
use Rattle.resb_lent.proofs.answers_beside.standing_of.Goals as goal

pub returns-in-Some-clause-stands : goal.returns-in-Some-clause-stands
returns-in-Some-clause-stands c = λ block S h told same.
    let ds = c.args.found.now in
    let k = c.args.copy in
    let d = c.in-Some.standing.now in
    let l : k < length ds = ltb-true k (length ds) (sym c.in-Some.ensures.lookup.0) in
    let at = stood block S ds told k l d in
    subst (StandsAs block c.args.text.now) (sym c.in-Some.ensures.lookup.1)
    (subst (λ z. StandsAs block z (get_or ds k d)) (same at.0) at.1)

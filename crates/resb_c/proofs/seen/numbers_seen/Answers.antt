use Rattle.std.proofs.Common.{sym, ◌∙◌, refl}
use Rattle.resb_walk.specs.Inner.Members.{content_of}
use Rattle.resb_c.proofs.SeenLemmas.{numbers_told}
use Rattle.resb_c.proofs.seen.numbers_seen.Goals as goal

pub returns-in-None-clause-shown : goal.returns-in-None-clause-shown
returns-in-None-clause-shown c = λ s shows. (
  numbers_told c.args.opened.now c.args.resource (content_of c.in_ok-there.there)
      c.in_ok-there.ensures.ok s shows ∙ sym c.in-None.ensures.numbers,
  refl,
)

pub returns-in-Some-clause-shown : goal.returns-in-Some-clause-shown
returns-in-Some-clause-shown c = λ s shows.
    numbers_told c.args.opened.now c.args.resource (content_of c.in_ok-there.there)
    c.in_ok-there.ensures.ok s shows ∙ sym c.in-Some.ensures.numbers

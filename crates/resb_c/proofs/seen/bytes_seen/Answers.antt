use Rattle.std.proofs.Common.{sym, ◌∙◌, refl}
use Rattle.resb_walk.specs.Inner.Members.{content_of}
use Rattle.resb_c.proofs.SeenLemmas.{bytes_told}
use Rattle.resb_c.proofs.seen.bytes_seen.Goals as goal

pub returns-in-None : goal.returns-in-None
returns-in-None c = λ s shows. (
  bytes_told c.args.opened.now c.args.resource (content_of c.in_ok-there.there)
      c.in_ok-there.ensures.ok s shows ∙ sym c.in-None.ensures,
  refl,
)

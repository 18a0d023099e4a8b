use Rattle.std.proofs.Common.{sym, subst, ◌∙◌}
use Rattle.resb_walk.specs.Inner.Members.{content_of}
use Rattle.resb_c.specs.Shown.{HasSize}
use Rattle.resb_c.proofs.SeenLemmas.{kind_told, size_told}
use Rattle.resb_c.proofs.seen.kind_seen.Goals as goal

pub returns : goal.returns
returns c = λ s shows.
    let o = c.args.opened.now in
    let r = c.args.resource in
    let there = content_of c.in_ok-there.there in (
      c.kind_of.ensures ∙ kind_told o r there c.in_ok-there.ensures.ok s shows,
      subst (HasSize o r s) (sym c.size_of.ensures)
          (size_told o r there c.in_ok-there.ensures.ok s shows),
    )

use Rattle.std.proofs.Common.{◌≡◌, sym, subst, Some, None}
use Rattle.std.specs.Prelude.{MatchResult}
use Rattle.resb_walk.specs.Inner.Members.{content_of}
use Rattle.resb_c.specs.declared.fault.Fault.TheVariants.{OtherKind}
use Rattle.resb_c.proofs.SeenLemmas.{signed_told}
use Rattle.resb_c.proofs.seen.signed_seen.Goals as goal

pub returns : goal.returns
returns c = λ s shows.
    subst
    (λ found. MatchResult c.signed_of.result (λ x. found ≡ Some x)
    (λ e. (found ≡ None) × (e ≡ OtherKind)))
    (sym (signed_told c.args.opened.now c.args.resource (content_of c.in_ok-there.there)
    c.in_ok-there.ensures.ok s shows))
    c.signed_of.ensures

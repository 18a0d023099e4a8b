use Rattle.std.proofs.Common.{◌≡◌, None, drop, ap, sym, ◌∙◌}
use Rattle.resb_read.specs.Access.{Access}
use Rattle.resb_read.specs.Places.{place_of}
use Rattle.resb_read.proofs.Failing.{stopped_at, first_fails}
use Rattle.resb_read.proofs.sequences.SeqAccess.next_element.Goals as goal

pub returns-in-Err : goal.returns-in-Err
returns-in-Err g c =
    let old = c.args.self.now in
    let seen = c.self.view_is in
    let first = c.in-Some-first.ensures in
    let h = c.in-Err.ensures.refused in
    let says = c.in-Err.ensures.says in
    let whole : old.failed ≡ None = sym (ap (λ (a : Access). a.failed) seen) ∙ c.in_default.is in
    first_fails g.T.Deserialize.reads g.T.Deserialize.counts g.T.Deserialize.refuses
    old _ (place_of c.in-Some-first.at)
    (drop 1 old.rest) c.args.walk.now c.deserialize.new.walk c.in-Err.error whole first
    (ap (stopped_at c.in-Err.error) (ap (λ (a : Access). a.rest) seen ∙ first)) (h.0, h.1, says)

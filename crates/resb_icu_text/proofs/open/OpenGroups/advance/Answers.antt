use Rattle.std.proofs.Common.{◌≡◌, ◌⊎◌, subst}
use Rattle.resb_icu_text.proofs.MakingLemmas.{advanced, advanced_kept, stops_made}
use Rattle.resb_icu_text.proofs.QuotaLemmas.{match_by, match_fails}
use Rattle.resb_icu_text.specs.Refusal.{want_of_memory}
use Rattle.resb_icu_text.specs.Inner.Reading.{IsMade, IsDouble}
use Rattle.resb_icu_text.proofs.open.OpenGroups.advance.Goals as goal

pub returns-in_err-read-clause-reads : goal.returns-in_err-read-clause-reads
returns-in_err-read-clause-reads g c =
    match_fails _ _ _ c.from_residual.ensures.1 c.in_err-read.ensures.reads

pub returns-clause-reads : goal.returns-clause-reads
returns-clause-reads g c =
    let text = c.args.text.now in
    let tree = g.B.Build.tree in
    let held = g.B.Build.held in
    let first = c.args.self.now in
    let mid = c.read.new.self in
    let d = c.make.new.build in
    let r = c.in_ok-read.read in
    let read = c.in_ok-read.ensures.reads in
    let build = c.in_ok-read.ensures.build in
    match_by (IsMade tree held mid.build d r)
    (λ e. (e ≡ want_of_memory) ⊎ IsDouble (tree mid.build) r e) _ _ _
    (λ n h. record {
      comes = advanced tree held text _ _ _ mid.waiting.items _ first.build mid.build d r n build
          read.comes read.kept read.ends h.grows h.comes;
      kept = advanced_kept tree held text mid.waiting.items first.build mid.build d r n build
          read.kept h.grows h.kept;
      goes = h.goes text c.args.step read.goes;
    })
    (λ e h limit a. stops_made text _ (tree first.build) r e _ _ read.ends
    (subst (λ b. (e ≡ want_of_memory) ⊎ IsDouble (tree b) r e) build h) limit
    (read.comes limit a)) c.make.ensures

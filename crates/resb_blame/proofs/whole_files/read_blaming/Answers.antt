use Rattle.std.proofs.Common.{rules, ap, sym, subst}
use Rattle.resb_read.specs.Files.{whole_in}
use Rattle.resb_read.specs.Reading.{LacksOrMemory}
use Rattle.resb_read.specs.Roots.{HoldsAt}
use Rattle.resb_blame.specs.Blamed.{Blamed}
use Rattle.resb_blame.proofs.Files.{resolved, leads_on}
use Rattle.resb_blame.proofs.whole_files.read_blaming.Goals as goal

pub returns-in-Err-2-clause-blamed : goal.returns-in-Err-2-clause-blamed
returns-in-Err-2-clause-blamed g c =
    resolved g.T.Deserialize.counts g.T.Blames.blames (whole_in c.args.file.now) c.in-Err.error
    c.blame_file.result c.blame_file.ensures c.in-Err.ensures.refused

pub returns-in-Err-2-clause-points : goal.returns-in-Err-2-clause-points
returns-in-Err-2-clause-points g c =
    let k = c.well_formed in let l = c.lifetimes in let z : g.claim c.lifetimes = search rules in
    let file = whole_in c.args.file.now in
    leads_on g.T.Blames.blames (g.met.T.Blames c.lifetimes z).points file c.blame_file.result
    (resolved g.T.Deserialize.counts g.T.Blames.blames file c.in-Err.error c.blame_file.result
    c.blame_file.ensures c.in-Err.ensures.refused)

pub returns-in-Err-clause-refused : goal.returns-in-Err-clause-refused
returns-in-Err-clause-refused g c =
    let w = whole_in c.args.file.now in
    subst (LacksOrMemory (λ n. HoldsAt (λ p. g.T.Deserialize.counts p n) w) w.budget)
    (sym (ap (λ (b : Blamed). b.error) c.whole.ensures)) c.in-Err.ensures.refused

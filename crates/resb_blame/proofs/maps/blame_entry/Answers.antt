use Rattle.std.proofs.Common.{rules, ◌+◌, refl, arith}
use Rattle.resb_blame.proofs.maps.blame_entry.Goals as goal

pub returns-in-Ok-clause-counted : goal.returns-in-Ok-clause-counted
returns-in-Ok-clause-counted g c =
    let k = c.well_formed in let l = c.lifetimes in let z : g.claim c.lifetimes = search rules in
    let (a, read, first) = c.in_default.ensures.read in
    let (b, count, later) = c.in-Ok.ensures.counted in
    let key = (g.met.K.Deserialize c.lifetimes z).counted _ _ a read in
    (a + b, (a, b, key, count, refl), omega (arith, first, later))

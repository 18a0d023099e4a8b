use Rattle.std.proofs.Common.{◌+◌, refl, inl, inr, rules, arith}
use Rattle.std.proofs.lemmas.Result.{err_from_is_err_and}
use Rattle.resb_read.proofs.entries.read_entry.Goals as goal

pub returns-clause-read : goal.returns-clause-read
returns-clause-read g c =
    let (a, k, s) = c.in_ok-key.ensures.read in
    let (b, x, t) = c.in_ok-value.ensures.read in
    (a + b, (a, b, k, x, refl), omega (arith, s, t))

pub returns-in_err-key-clause-says : goal.returns-in_err-key-clause-says
returns-in_err-key-clause-says g c =
    let e = err_from_is_err_and c.from_residual.result c.from_residual.ensures.1 in
    let h = c.in_err-key.ensures.refused in
    rw (e.1, e.2) (inl (h.0, h.1, c.in_err-key.ensures.says))

pub returns-in_err-value-clause-says : goal.returns-in_err-value-clause-says
returns-in_err-value-clause-says g c =
    let k = c.well_formed in let l = c.lifetimes in let z : g.claim c.lifetimes = search rules in
    let e = err_from_is_err_and c.from_residual-in_err-value.result
    c.from_residual-in_err-value.ensures.1 in
    let h = c.in_err-value.ensures.refused in
    let (a, r, s) = c.in_ok-key.ensures.read in
    rw (e.1, e.2) (inr (record {
      spent = a;
      here = c.deserialize.new.walk;
      counted = (g.met.K.Deserialize c.lifetimes z).counted _ _ a r;
      paid = s;
      refused = (h.0, h.1, c.in_err-value.ensures.says);
    }))

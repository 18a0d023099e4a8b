use Rattle.std.proofs.Common.{rules, [], refl, inr, arith}
use Rattle.std.proofs.lemmas.Result.{err_from_is_err_and}
use Rattle.resb_read.proofs.Each.{front_more, front_refused}
use Rattle.resb_read.proofs.lists.read_members.Goals as goal

pub members-init : goal.members-init
members-init g c = (
  c.requires,
  record {
    done = [];
    spent = 0;
    are = refl;
    each = rw c.new-values.ensures.items refl;
    paid = omega arith;
  },
)

pub returns-in_err-value-clause-refused : goal.returns-in_err-value-clause-refused
returns-in_err-value-clause-refused g c =
    let k = c.well_formed in let l = c.lifetimes in let z : g.claim c.lifetimes = search rules in
    let p = err_from_is_err_and c.from_residual.result c.from_residual.ensures.1 in
    let h = front_refused g.T.Deserialize.reads g.T.Deserialize.counts g.T.Deserialize.refuses
    (g.met.T.Deserialize c.lifetimes z).counted
    (g.met.T.Deserialize c.lifetimes z).one_count c.args.seq.rest c.members.seq
    c.members.values.items c.args.walk.now c.members.walk c.next_element.new.self
    c.next_element.new.walk c.in_err-value.field-0.0 c.members.invariant.0
    c.members.invariant.1 c.in_err-value.ensures in
    rw (p.1, p.2) (h.0, h.1)

pub returns-in_err-value-clause-says : goal.returns-in_err-value-clause-says
returns-in_err-value-clause-says g c =
    let k = c.well_formed in let l = c.lifetimes in let z : g.claim c.lifetimes = search rules in
    let p = err_from_is_err_and c.from_residual.result c.from_residual.ensures.1 in
    let h = front_refused g.T.Deserialize.reads g.T.Deserialize.counts g.T.Deserialize.refuses
    (g.met.T.Deserialize c.lifetimes z).counted
    (g.met.T.Deserialize c.lifetimes z).one_count c.args.seq.rest c.members.seq
    c.members.values.items c.args.walk.now c.members.walk c.next_element.new.self
    c.next_element.new.walk c.in_err-value.field-0.0 c.members.invariant.0
    c.members.invariant.1 c.in_err-value.ensures in
    rw (p.1, p.2) (inr h.2)

pub members-preserved : goal.members-preserved
members-preserved g c =
    let h = rw c.in-Some.is at c.in_ok-value.ensures in
    rw c.in_ok-push.ensures.items
    (front_more g.T.Deserialize.reads g.T.Deserialize.counts g.T.Deserialize.refuses
    c.args.seq.rest c.members.seq
    c.members.values.items c.args.walk.now c.members.walk c.next_element.new.self
    c.next_element.new.walk c.in-Some.value c.members.invariant.0 c.members.invariant.1 h)

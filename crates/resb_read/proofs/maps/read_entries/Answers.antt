use Rattle.std.proofs.Common.{rules, [], refl, inr, arith}
use Rattle.std.proofs.lemmas.Result.{err_from_is_err_and}
use Rattle.resb_read.proofs.Entering.{front_enters, front_fails}
use Rattle.resb_read.proofs.maps.read_entries.Goals as goal

pub entries-init : goal.entries-init
entries-init g c = (
  c.requires,
  record {
    done = [];
    read = [];
    spent = 0;
    are = refl;
    each = refl;
    map = c.new-map.ensures.empty;
    paid = omega arith;
  },
)

pub returns-in_err-key-clause-refused : goal.returns-in_err-key-clause-refused
returns-in_err-key-clause-refused g c =
    let k = c.well_formed in let l = c.lifetimes in let z : g.claim c.lifetimes = search rules in
    let e = err_from_is_err_and c.from_residual.result c.from_residual.ensures.1 in
    let K = g.met.K.Deserialize c.lifetimes z in
    let T = g.met.T.Deserialize c.lifetimes z in
    let i = c.entries.invariant in
    let h = front_fails g.K.Deserialize.reads g.K.Deserialize.counts g.K.Deserialize.refuses
    g.T.Deserialize.reads g.T.Deserialize.counts g.T.Deserialize.refuses g.K.Ord.cmp
    c.args.access.rest c.entries.access c.entries.map.entries c.args.walk.now c.entries.walk
    c.next_entry.new.self c.next_entry.new.walk i.0 i.1 K.counted T.counted K.one_count T.one_count
    c.in_err-key.field-0.0 c.in_err-key.ensures in
    rw (e.1, e.2) (h.0, h.1)

pub returns-in_err-key-clause-says : goal.returns-in_err-key-clause-says
returns-in_err-key-clause-says g c =
    let k = c.well_formed in let l = c.lifetimes in let z : g.claim c.lifetimes = search rules in
    let e = err_from_is_err_and c.from_residual.result c.from_residual.ensures.1 in
    let K = g.met.K.Deserialize c.lifetimes z in
    let T = g.met.T.Deserialize c.lifetimes z in
    let i = c.entries.invariant in
    let h = front_fails g.K.Deserialize.reads g.K.Deserialize.counts g.K.Deserialize.refuses
    g.T.Deserialize.reads g.T.Deserialize.counts g.T.Deserialize.refuses g.K.Ord.cmp
    c.args.access.rest c.entries.access c.entries.map.entries c.args.walk.now c.entries.walk
    c.next_entry.new.self c.next_entry.new.walk i.0 i.1 K.counted T.counted K.one_count T.one_count
    c.in_err-key.field-0.0 c.in_err-key.ensures in
    rw (e.1, e.2) (inr h.2)

pub entries-preserved-in_ok-insert : goal.entries-preserved-in_ok-insert
entries-preserved-in_ok-insert g c =
    let i = c.entries.invariant in
    let h = rw c.in-Some.is at c.in_ok-key.ensures in
    let put = c.in_ok-insert.ensures.entries in
    rw put
    (front_enters g.K.Deserialize.reads g.K.Deserialize.counts g.K.Deserialize.refuses
    g.T.Deserialize.reads g.T.Deserialize.counts g.T.Deserialize.refuses g.K.Ord.cmp
    c.args.access.rest c.entries.access
    c.entries.map.entries c.args.walk.now c.entries.walk c.next_entry.new.self
    c.next_entry.new.walk i.0 i.1 c.in-Some.key c.in-Some.value h)

pub entries-preserved : goal.entries-preserved
entries-preserved g c =
    let i = c.entries.invariant in
    let h = rw c.in-Some.is at c.in_ok-key.ensures in
    let put = c.in_ok-insert.ensures.entries in
    rw put
    (front_enters g.K.Deserialize.reads g.K.Deserialize.counts g.K.Deserialize.refuses
    g.T.Deserialize.reads g.T.Deserialize.counts g.T.Deserialize.refuses g.K.Ord.cmp
    c.args.access.rest c.entries.access
    c.entries.map.entries c.args.walk.now c.entries.walk c.next_entry.new.self
    c.next_entry.new.walk i.0 i.1 c.in-Some.key c.in-Some.value h)

use Rattle.std.proofs.Common.{refl, sym, subst, arith}
use Rattle.std.specs.List.{Contains}
use Rattle.resb_pool.specs.Plan.{nows}
use Rattle.resb_pool.specs.Inner.Placing.{AreContainers, AreSums}
use Rattle.resb_pool.proofs.PlacingLemmas.{within_texts, hidden_within}
use Rattle.resb_pool.proofs.Interning.{length-nows}
use Rattle.resb_pool.proofs.PlanLemmas.{totals_small, sums_are, texts_few, texts_utf8}
use Rattle.resb_pool.proofs.Laying.{records_laid, each_laid}
use Rattle.resb_pool.proofs.shared_pool.rank.Goals as goal

pub find_containers-requires-clause-utf8 : goal.find_containers-requires-clause-utf8
find_containers-requires-clause-utf8 c =
    let g = c.requires.given in
    texts_utf8 g.0 (nows c.args.texts.now) c.args.measures.now g.2

pub find_containers-requires-clause-few : goal.find_containers-requires-clause-few
find_containers-requires-clause-few c =
    let T = nows c.args.texts.now in
    let g = c.requires.given in
    omega (
      arith,
      length-nows c.args.texts.now,
      texts_few g.0 T c.args.measures.now g.2 g.1,
    )

pub find_sums-requires-clause-small : goal.find_sums-requires-clause-small
find_sums-requires-clause-small c =
    let g = c.requires.given in
    totals_small c.args.packing g.0 (nows c.args.texts.now) c.args.measures.now g.2 g.1
    c.in_ok-containers.containers.of.items c.in_ok-containers.ensures.containers

pub find_sums-requires-clause-hidden : goal.find_sums-requires-clause-hidden
find_sums-requires-clause-hidden c =
    let T = nows c.args.texts.now in
    let hidden = hidden_within c.args.packing (Contains T) T
    c.in_ok-containers.containers.hidden.items c.in_ok-containers.ensures.hidden in
    λ i d l. omega (arith, hidden i d l, c.in_ok-containers.ensures.containers.len)

pub find_sums-requires-clause-within : goal.find_sums-requires-clause-within
find_sums-requires-clause-within c =
    within_texts c.args.packing (nows c.args.texts.now) c.in_ok-containers.containers.of.items
    c.in_ok-containers.ensures.containers

pub find_records-requires-clause-containers : goal.find_records-requires-clause-containers
find_records-requires-clause-containers c = (
  c.args.packing,
  subst (AreContainers c.args.packing (nows c.args.texts.now)) (sym c.deref.ensures.value)
      c.in_ok-containers.ensures.containers,
)

pub find_records-requires-clause-few : goal.find_records-requires-clause-few
find_records-requires-clause-few c =
    let T = nows c.args.texts.now in
    let g = c.requires.given in
    omega (
      arith,
      length-nows c.args.texts.now,
      texts_few g.0 T c.args.measures.now g.2 g.1,
    )

pub find_records-requires-clause-sums : goal.find_records-requires-clause-sums
find_records-requires-clause-sums c =
    let T = nows c.args.texts.now in
    let ms = c.args.measures.now in
    let g = c.requires.given in
    let sums = c.in_ok-sums.sums.items in
    subst (AreSums T ms) (sym c.deref-2.ensures.value)
    (sums_are c.args.packing g.0 T ms g.2 g.1 c.in_ok-containers.containers.of.items
    c.in_ok-containers.ensures.containers c.in_ok-containers.containers.hidden.items
    sums c.in_ok-sums.ensures)

pub ordered-requires-clause-utf8 : goal.ordered-requires-clause-utf8
ordered-requires-clause-utf8 c =
    let g = c.requires.given in
    texts_utf8 g.0 (nows c.args.texts.now) c.args.measures.now g.2

pub ordered-requires-clause-each : goal.ordered-requires-clause-each
ordered-requires-clause-each c = (c.deref-2.result.now, c.in_ok-records.ensures.each)

pub returns : goal.returns
returns c =
    let T = nows c.args.texts.now in
    let sums = c.in_ok-sums.sums.items in
    let found = c.in_ok-records.records.items in
    let v = c.ordered.result.items in
    let p = c.ordered.ensures.moved in
    record {
      containers = c.in_ok-containers.containers.of.items;
      containers_are = c.in_ok-containers.ensures.containers;
      hidden = c.in_ok-containers.containers.hidden.items;
      hidden_are = c.in_ok-containers.ensures.hidden;
      sums = sums;
      lying = c.in_ok-sums.ensures;
      records = records_laid T found v v p refl c.in_ok-records.ensures.records;
      each = each_laid T found v v p refl sums c.deref-2.result.now c.deref-2.ensures.value
          c.in_ok-records.ensures.each;
      ascend = c.ordered.ensures.ascend;
    }

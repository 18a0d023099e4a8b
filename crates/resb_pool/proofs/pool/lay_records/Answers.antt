use Rattle.std.proofs.Common.{length, sym, ◌∙◌, subst, arith}
use Rattle.std.specs.List.Sorted.{IsSorted}
use Rattle.resb_pool.specs.Plan.{nows}
use Rattle.resb_pool.specs.Inner.Placing.{AreContainers, AreSums, record_cmp}
use Rattle.resb_pool.proofs.Interning.{length-nows}
use Rattle.resb_pool.proofs.PlacingLemmas.{within_texts}
use Rattle.resb_pool.proofs.PlanLemmas.{totals_small, sums_are, laid_small, texts_few, texts_utf8}
use Rattle.resb_pool.proofs.Laying.{block_of, records_laid, each_laid}
use Rattle.resb_pool.proofs.pool.lay_records.Goals as goal

pub find_sums-requires-clause-len : goal.find_sums-requires-clause-len
find_sums-requires-clause-len c = c.requires.given.2.len ∙ sym c.requires.containers.len

pub find_sums-requires-clause-within : goal.find_sums-requires-clause-within
find_sums-requires-clause-within c = within_texts c.args.packing (nows c.args.texts.now)
    c.args.containers.now.of.items c.requires.containers

pub find_sums-requires-clause-hidden : goal.find_sums-requires-clause-hidden
find_sums-requires-clause-hidden c =
    λ i d l. omega (
      arith,
      c.requires.hidden i d l,
      c.requires.containers.len,
      length-nows c.args.texts.now,
    )

pub find_sums-requires-clause-small : goal.find_sums-requires-clause-small
find_sums-requires-clause-small c =
    let g = c.requires.given in
    totals_small c.args.packing g.0 (nows c.args.texts.now) c.args.measures.now g.2 g.1
    c.args.containers.now.of.items c.requires.containers

pub find_records-requires-clause-few : goal.find_records-requires-clause-few
find_records-requires-clause-few c =
    let g = c.requires.given in
    let few = texts_few g.0 (nows c.args.texts.now) c.args.measures.now g.2 g.1 in
    omega (arith, length-nows c.args.texts.now, few)

pub find_records-requires-clause-sums : goal.find_records-requires-clause-sums
find_records-requires-clause-sums c =
    let T = nows c.args.texts.now in
    let g = c.requires.given in
    let sums = c.in_ok-sums.sums.items in
    subst (AreSums T c.args.measures.now) (sym c.deref-2.ensures.value)
    (sums_are c.args.packing g.0 T c.args.measures.now g.2 g.1 c.args.containers.now.of.items
    c.requires.containers c.args.containers.now.hidden.items sums c.in_ok-sums.ensures)

pub find_records-requires-clause-containers : goal.find_records-requires-clause-containers
find_records-requires-clause-containers c = (
  c.args.packing,
  subst (AreContainers c.args.packing (nows c.args.texts.now)) (sym c.deref.ensures.value)
      c.requires.containers,
)

pub ordered-records-requires-clause-utf8 : goal.ordered-records-requires-clause-utf8
ordered-records-requires-clause-utf8 c =
    let g = c.requires.given in
    texts_utf8 g.0 (nows c.args.texts.now) c.args.measures.now g.2

pub ordered-records-requires-clause-each : goal.ordered-records-requires-clause-each
ordered-records-requires-clause-each c = (c.deref-2.result.now, c.in_ok-found.ensures.each)

pub lay-requires-clause-counts : goal.lay-requires-clause-counts
lay-requires-clause-counts c =
    let T = nows c.args.texts.now in
    let each = each_laid T c.in_ok-found.found.items c.ordered-records.result.items
    c.deref-3.result.now c.ordered-records.ensures.moved c.deref-3.ensures.value
    c.in_ok-sums.sums.items c.deref-2.result.now c.deref-2.ensures.value
    c.in_ok-found.ensures.each in
    λ k d l. (each k d l).units_is

pub lay-requires-clause-within : goal.lay-requires-clause-within
lay-requires-clause-within c =
    let T = nows c.args.texts.now in
    let each = each_laid T c.in_ok-found.found.items c.ordered-records.result.items
    c.deref-3.result.now c.ordered-records.ensures.moved c.deref-3.ensures.value
    c.in_ok-sums.sums.items c.deref-2.result.now c.deref-2.ensures.value
    c.in_ok-found.ensures.each in
    λ k d l. omega (arith, (each k d l).within, length-nows c.args.texts.now)

pub lay-requires-clause-short : goal.lay-requires-clause-short
lay-requires-clause-short c =
    let T = nows c.args.texts.now in
    let g = c.requires.given in
    let sums = c.in_ok-sums.sums.items in
    let found = c.in_ok-found.found.items in
    let moved = c.ordered-records.result.items in
    let v = c.deref-3.result.now in
    let p = c.ordered-records.ensures.moved in
    let same = c.deref-3.ensures.value in
    laid_small c.args.packing g.0 T c.args.measures.now g.2 g.1 c.args.containers.now.of.items
    c.requires.containers c.args.containers.now.hidden.items sums c.in_ok-sums.ensures v
    (records_laid T found moved v p same c.in_ok-found.ensures.records)
    (each_laid T found moved v p same sums c.deref-2.result.now c.deref-2.ensures.value
    c.in_ok-found.ensures.each)

pub returns : goal.returns
returns c =
    let T = nows c.args.texts.now in
    let sums = c.in_ok-sums.sums.items in
    let found = c.in_ok-found.found.items in
    let moved = c.ordered-records.result.items in
    let v = c.deref-3.result.now in
    let p = c.ordered-records.ensures.moved in
    let same = c.deref-3.ensures.value in
    let ascend = subst (IsSorted (record_cmp c.args.packing T)) (sym same)
    c.ordered-records.ensures.ascend in
    let count = sym (length-nows c.args.texts.now) ∙ sym c.requires.containers.len in
    block_of c.args.packing T c.args.containers.now.of.items c.args.measures.now
    c.args.containers.now.hidden.items sums c.in_ok-sums.ensures v
    (records_laid T found moved v p same c.in_ok-found.ensures.records)
    (each_laid T found moved v p same sums c.deref-2.result.now c.deref-2.ensures.value
    c.in_ok-found.ensures.each)
    ascend (length c.args.texts.now) count c.lay.result c.lay.ensures.units c.lay.ensures.len
    c.lay.ensures.ends

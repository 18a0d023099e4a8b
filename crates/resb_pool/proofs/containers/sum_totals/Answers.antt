use Rattle.std.proofs.Common.{◌≡◌, ◌+◌, ◌<◌, length, get_or, take, ap, ◌∙◌, arith}
use Rattle.std.proofs.lemmas.List.{get_or_read, length-set}
use Rattle.resb_pool.specs.Inner.Placing.{lying_in}
use Rattle.resb_pool.specs.declared.measure.Measure.{Measure}
use Rattle.resb_pool.proofs.Sums.{lying_within, sum_put}
use Rattle.resb_pool.proofs.containers.sum_totals.Goals as goal

abbrev no_measure : Measure
no_measure = record { unit_count = 0; size = 0; total = 0 }

pub overflow_add-index_mut : goal.overflow_add-index_mut
overflow_add-index_mut c =
    let hs = c.args.containers.now in
    let ms = c.args.measures.now in
    let i = c.loop-index.index in
    let q = get_or hs i 0 in
    let l = c.requires.within i 0 c.loop-index-test.true in
    let v = c.loop-index.invariant in
    let e : c.index_mut.result.now ≡ lying_in (take i hs) (take i ms) q =
    get_or_read c.loop-index.sums.items q c.index_mut.result.now (omega (arith, l, v.len))
    c.index_mut.ensures.value 0 ∙ v.sums q l in
    omega (
      arith,
      e,
      lying_within hs ms i no_measure q c.loop-index-test.true
          (omega (arith, c.loop-index-test.true, c.requires.len)),
      c.requires.small,
    )

pub loop-index-preserved : goal.loop-index-preserved
loop-index-preserved c =
    let hs = c.args.containers.now in
    let ms = c.args.measures.now in
    let i = c.loop-index.index in
    let q = get_or hs i 0 in
    let m = get_or ms i no_measure in
    let es = c.loop-index.sums.items in
    let n = c.index_mut.result.now + m.total in
    let v = c.loop-index.invariant in
    let l = c.requires.within i 0 c.loop-index-test.true in
    let k : q < length es = omega (arith, l, v.len) in
    let e = get_or_read es q c.index_mut.result.now k c.index_mut.ensures.value 0 in
    record {
      len = length-set es q n ∙ v.len;
      sums = λ p b. sum_put hs ms i no_measure es n c.loop-index-test.true
          (omega (arith, c.loop-index-test.true, c.requires.len)) k
          (ap (λ z. z + m.total) e) p (v.sums p b);
    }

use Rattle.std.proofs.Common.{◌≡◌, ◌∙◌, length, arith}
use Rattle.resb_pool.specs.declared.measure.Measure.{Measure}
use Rattle.resb_pool.proofs.offsets.find_offsets.Goals as goal

abbrev no_measure : Measure
no_measure = record { unit_count = 0; size = 0; total = 0 }

pub bounds-ends-container : goal.bounds-ends-container
bounds-ends-container c =
    (c.requires.close c.loop-index.index no_measure c.loop-index-test.true).within

pub overflow_add-ends : goal.overflow_add-ends
overflow_add-ends c =
    let h = c.requires.close c.loop-index.index no_measure c.loop-index-test.true in
    omega (arith, h.small)

pub overflow_sub-ends : goal.overflow_sub-ends
overflow_sub-ends c =
    let h = c.requires.close c.loop-index.index no_measure c.loop-index-test.true in
    h.reaches

pub returns : goal.returns
returns c =
    let l : c.loop-index.index ≡ length c.args.containers.now =
    omega (arith, c.loop-index-test.false, c.loop-index.auto.index-end) in
    record {
      len = c.loop-index.invariant.len ∙ l;
      each = λ i d h. c.loop-index.invariant.each i d (omega (arith, h, l));
    }

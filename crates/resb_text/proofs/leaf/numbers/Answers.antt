use Rattle.std.proofs.Common.{sym, ◌∙◌, arith}
use Rattle.resb_text.proofs.Outcomes.{match_same}
use Rattle.resb_text.proofs.Leaves.{ready_first, one_number, goes_on, ends_numbers}
use Rattle.resb_text.proofs.Leaves.{no_vector_number, no_vector_brace, number_over}
use Rattle.resb_text.proofs.QuotaLemmas.{none_taken, number_taken}
use Rattle.resb_text.proofs.leaf.numbers.Goals as goal

pub numbers-init : goal.numbers-init
numbers-init c = record {
  low = omega arith;
  fits = c.requires.within;
  ready = rw c.new-numbers.ensures.items (ready_first c.requires.start.0);
  takes = rw c.new-numbers.ensures.items (none_taken c.requires.quota);
  brace = c.requires.start.1;
  cost = omega arith;
}

pub returns-in_default-clause-reads : goal.returns-in_default-clause-reads
returns-in_default-clause-reads c =
    rw (c.new.ensures, c.number_expected.ensures, c.byte-b.ensures.byte)
    (no_vector_number _ _ _ _ c.numbers.invariant.ready c.numbers.invariant.takes
    c.numbers.invariant.brace c.in_default.ensures.found)

pub returns-in_err-take-clause-quota : goal.returns-in_err-take-clause-quota
returns-in_err-take-clause-quota c =
    match_same _ _ _ _ c.from_residual.ensures.1 (number_over _ _ _ _ _ _
    c.numbers.invariant.ready c.in-Some.ensures.found c.numbers.invariant.takes
    c.in_err-take.ensures)

pub returns-in_err-here-clause-reads : goal.returns-in_err-here-clause-reads
returns-in_err-here-clause-reads c =
    let unended = c.in_err-here.ensures.reads in
    match_same _ _ _ _ c.from_residual-in_err-here.ensures.1 (rw unended.is
    (no_vector_brace _ _ _ _ (one_number _ _ _ _ _ _ _ c.numbers.invariant.ready
    c.in-Some.ensures.found c.skip-place.ensures.skip)
    (number_taken _ _ c.numbers.invariant.takes c.in_ok-take.ensures)
    unended.none unended.no_comma))

pub returns-then-byte-eq125-clause-reads : goal.returns-then-byte-eq125-clause-reads
returns-then-byte-eq125-clause-reads c = record {
  numbers =
      rw c.in_ok-push.ensures.items
      (ends_numbers _ _ _ _ _ (one_number _ _ _ _ _ _ _ c.numbers.invariant.ready
      c.in-Some.ensures.found c.skip-place.ensures.skip) c.in_ok-here.ensures.reads);
  brace = sym c.byte.ensures.byte ∙ c.if-byte-eq125.true;
}

pub returns-then-byte-eq125-clause-quota : goal.returns-then-byte-eq125-clause-quota
returns-then-byte-eq125-clause-quota c =
    rw c.in_ok-push.ensures.items
    (number_taken _ _ c.numbers.invariant.takes c.in_ok-take.ensures)

pub numbers-preserved : goal.numbers-preserved
numbers-preserved c =
    let number_cost = c.in-Some.ensures.cost in
    let behind_cost = c.in_ok-here.ensures.cost in
    record {
      low = omega (arith, number_cost, behind_cost);
      fits = behind_cost.1;
      ready =
          rw c.in_ok-push.ensures.items
          (goes_on _ _ _ _ _ (one_number _ _ _ _ _ _ _ c.numbers.invariant.ready
          c.in-Some.ensures.found c.skip-place.ensures.skip)
          c.in_ok-here.ensures.reads (rw (← c.byte.ensures.byte) c.if-byte-eq125.false));
      takes =
          rw c.in_ok-push.ensures.items
          (number_taken _ _ c.numbers.invariant.takes c.in_ok-take.ensures);
      brace = rw (← c.byte.ensures.byte) c.if-byte-eq125.false;
      cost = omega (arith, number_cost, behind_cost);
    }

use Rattle.std.proofs.Common.{◌+◌, sym, ◌∙◌, arith, refl, length, length-append, ◌∷◌, []}
use Rattle.resb_icu_grammar.specs.declared.group_kind.IcuKind.TheVariants.{IntVector as vector_kind}
use Rattle.resb_icu_grammar.specs.Stuck.{none_yet, no_number, open_vector}
use Rattle.resb_icu_grammar.proofs.Blocked.{no_more, a_last}
use Rattle.resb_icu_text.proofs.ReachLemmas.{reach_low}
use Rattle.resb_icu_text.proofs.LeafLemmas.{continues_first, continues_end, continues_more}
use Rattle.resb_icu_text.proofs.LeafLemmas.{counted_more, numbers_stop, number_over, leaf_lacks}
use Rattle.resb_icu_text.proofs.LeafLemmas.{leaf_says}
use Rattle.resb_icu_text.proofs.QuotaLemmas.{none_taken, both_taken, match_fails}
use Rattle.resb_icu_text.proofs.ReachLemmas.{reach_number}
use Rattle.resb_icu_text.proofs.leaf.numbers.Goals as goal

pub numbers-init : goal.numbers-init
numbers-init c =
    record {
      order = omega arith;
      fits = c.requires.within;
      cost = omega arith;
      counted = rw c.new-numbers.ensures.items (none_yet c.args.at, refl);
      taken = rw c.new-numbers.ensures.items (none_taken _);
      some = c.requires.some;
      continues = rw c.new-numbers.ensures.items (continues_first _ _);
    }

pub returns-in_default-clause-reads : goal.returns-in_default-clause-reads
returns-in_default-clause-reads c =
    let counted = c.numbers.invariant.counted in
    numbers_stop c.args.at c.numbers.here _ 0 _ counted.0 (no_more c.in_default.ensures.none)
    c.numbers.invariant.taken (omega (arith, counted.1))
    (leaf_says _ _ _ _ _ _ c.new.ensures (no_number _ counted.0 c.numbers.invariant.some
    c.in_default.ensures.none))

pub returns-in_err-take-clause-reads : goal.returns-in_err-take-clause-reads
returns-in_err-take-clause-reads c =
    match_fails _ _ _ c.from_residual.ensures.1
    (number_over c.args.at c.numbers.here _ _ _ _ c.numbers.invariant.counted.0
    c.numbers.invariant.counted.1 c.in-Some.ensures.found c.numbers.invariant.taken
    c.in_err-take.ensures refl)

pub returns-in_err-push-clause-reads : goal.returns-in_err-push-clause-reads
returns-in_err-push-clause-reads c =
    match_fails _ _ _ c.from_residual-in_err-push.ensures.1 (leaf_lacks c.args.at vector_kind _
    (both_taken c.numbers.invariant.taken c.in_ok-take.ensures refl) refl)

pub returns-in_err-here-clause-reads : goal.returns-in_err-here-clause-reads
returns-in_err-here-clause-reads c =
    let e = c.in_err-here.ensures.reads in
    let counted = c.numbers.invariant.counted in
    match_fails _ _ _ c.from_residual-in_err-here.ensures.1
    (numbers_stop c.args.at c.numbers.here (length c.numbers.numbers.items + 1) 1 _
    counted.0
    (a_last _ _ _ c.in-Some.ensures.found c.skip-place.ensures.skip e.no_comma)
    (both_taken c.numbers.invariant.taken c.in_ok-take.ensures (omega arith))
    (omega (arith, counted.1))
    (leaf_says _ _ _ _ _ _ e.is (open_vector _ _ _ _ counted.0 c.in-Some.ensures.found
    c.skip-place.ensures.skip e.no_comma e.none)))

pub returns-then-byte-eq125-clause-reads : goal.returns-then-byte-eq125-clause-reads
returns-then-byte-eq125-clause-reads c =
    record {
      vector = rw c.in_ok-push.ensures.items
          (continues_end _ _ _ _ _ _ _ _ c.in-Some.ensures.found c.skip-place.ensures.skip
          c.in_ok-here.ensures.reads (sym c.byte.ensures.byte ∙ c.if-byte-eq125.true)
          c.numbers.invariant.continues);
      takes = rw c.in_ok-push.ensures.items
          (both_taken c.numbers.invariant.taken c.in_ok-take.ensures
          (omega (arith, length-append c.numbers.numbers.items (c.in-Some.value ∷ []))));
      order = omega (arith, c.in-Some.ensures.within.0, c.in_ok-here.ensures.cost.0);
      fits = c.byte.ensures.inside (omega (arith, c.if-byte-eq125.true));
    }

pub numbers-preserved : goal.numbers-preserved
numbers-preserved c =
    record {
      counted = rw c.in_ok-push.ensures.items
          (counted_more _ _ _ _ _ _ _ _ c.numbers.invariant.counted c.in-Some.ensures.found
          c.skip-place.ensures.skip c.in_ok-here.ensures.reads
          (λ e. c.if-byte-eq125.false (c.byte.ensures.byte ∙ e)));
      taken = rw c.in_ok-push.ensures.items
          (both_taken c.numbers.invariant.taken c.in_ok-take.ensures
          (omega (arith, length-append c.numbers.numbers.items (c.in-Some.value ∷ []))));
      some = λ e. c.if-byte-eq125.false (c.byte.ensures.byte ∙ e);
      order = omega (arith, c.in-Some.ensures.within.0, c.in_ok-here.ensures.cost.0);
      fits = c.in_ok-here.ensures.cost.1;
      continues = rw c.in_ok-push.ensures.items
          (continues_more _ _ _ _ _ _ _ _ c.in-Some.ensures.found c.skip-place.ensures.skip
          c.in_ok-here.ensures.reads (λ e. c.if-byte-eq125.false (c.byte.ensures.byte ∙ e))
          c.numbers.invariant.continues);
      cost = omega (
        arith,
        c.in-Some.ensures.cost,
        c.in-Some.ensures.within.0,
        reach_number c.args.text.now c.numbers.here _ _ c.in-Some.ensures.within.0
            c.in-Some.ensures.found,
        c.in_ok-here.ensures.cost,
        reach_low c.args.text.now c.in_ok-here.here c.in_ok-here.ensures.cost.1,
      );
    }

use Rattle.std.proofs.Common.{arith, ap}
use Rattle.std.proofs.lemmas.List.{length-map}
use Rattle.std.proofs.lemmas.Bool.{and_from, and_parts}
use Rattle.resb_icu_text.proofs.ReadingLemmas.{text_goes_on, text_ends}
use Rattle.resb_icu_text.specs.Inner.Kept.{entries_pass}
use Rattle.resb_icu_text.proofs.ReachLemmas.{reach_high}
use Rattle.resb_icu_text.proofs.QuotaLemmas.{match_fails}
use Rattle.resb_icu_text.proofs.reader.read_root.Goals as goal

pub steps-init : goal.steps-init
steps-init g c =
    let b = c.new-open.result.build in
    record {
      within = c.requires.within;
      comes = rw (
        c.new-open.ensures.groups (g.B.Build.tree b),
        c.new-open.ensures.keys,
        c.new.ensures.items,
      ) (λ limit a. a);
      kept = λ t p. and_from _ _ (c.new-open.ensures.slices (g.B.Build.held b) t)
          (ap (λ l. entries_pass l (g.B.Build.held b) t) c.new.ensures.items);
      cost = rw c.new-open.ensures.keys (omega arith);
    }

pub steps-preserved : goal.steps-preserved
steps-preserved g c =
    let next = rw c.in-Step.is at c.in_ok-next.ensures.reads in
    record {
      within = next.goes.0;
      comes = λ limit a. next.comes limit (c.steps.invariant.comes limit a);
      kept = next.kept;
      cost = omega (arith, rw c.in-Step.is at c.in_ok-next.ensures.cost);
    }

pub returns-in_err-next-clause-reads : goal.returns-in_err-next-clause-reads
returns-in_err-next-clause-reads g c =
    match_fails _ _ _ c.from_residual.ensures.1 (λ limit a.
    c.in_err-next.ensures.reads limit (c.steps.invariant.comes limit a))

pub returns-then-has_barred-clause-reads : goal.returns-then-has_barred-clause-reads
returns-then-has_barred-clause-reads g c =
    let next = rw c.in-Root.is at c.in_ok-next.ensures.reads in
    text_goes_on _ _ _ _ _ _ _ _ _
    (λ limit a. next.comes limit (c.steps.invariant.comes limit a))
    c.skip-end.ensures.skip (c.has_barred.ensures.found c.if-has_barred.true)
    c.new-then-has_barred.ensures

pub returns-in-Root-clause-reads : goal.returns-in-Root-clause-reads
returns-in-Root-clause-reads g c =
    let next = rw c.in-Root.is at c.in_ok-next.ensures.reads in (
      text_ends _ _ _ _ _ _ _ _
          (λ limit a. next.comes limit (c.steps.invariant.comes limit a))
          c.skip-end.ensures.skip (c.has_barred.ensures.none c.if-has_barred.false),
      λ t p. (and_parts _ _ (next.kept t p)).1,
    )

pub returns-in-Root-clause-cost : goal.returns-in-Root-clause-cost
returns-in-Root-clause-cost g c =
    let cost = rw c.in-Root.is at c.in_ok-next.ensures.cost in
    let high = reach_high c.args.text.now c.skip-end.result c.skip-end.ensures.fits in
    omega (arith, length-map c.advance.new.self.keys.items (λ k. k.now))

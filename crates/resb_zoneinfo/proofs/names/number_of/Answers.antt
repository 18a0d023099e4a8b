use Rattle.std.proofs.Common.{rules, ◌≡◌, IsTrue, true, false, below_more, sym, ◌∙◌, subst, length}
use Rattle.std.proofs.Common.{refl, arith}
use Rattle.std.proofs.lemmas.Option.{slice_get_read, same_Some}
use Rattle.resb.specs.Views.{view_units}
use Rattle.resb_zoneinfo.specs.Names.{IsSame}
use Rattle.resb_zoneinfo.proofs.names.number_of.Goals as goal

is_true : IsTrue true
is_true = search rules

no_truth : IsTrue false → ⊥
no_truth h = grind (arith, h)

pub returns-then-is_same : goal.returns-then-is_same
returns-then-is_same c =
    let v = c.index-names-number.result in
    let names = c.args.names.now in
    record {
      there = (
        v,
        slice_get_read names (length names) c.loop-number.number v refl c.loop-number-test.true
            c.index-names-number.is,
        c.if-is_same.ensures.0 is_true,
      );
      first = c.loop-number.invariant;
    }

pub loop-number-preserved : goal.loop-number-preserved
loop-number-preserved c =
    let v = c.index-names-number.result in
    let names = c.args.names.now in
    let read = slice_get_read names (length names) c.loop-number.number v refl
    c.loop-number-test.true c.index-names-number.is in
    below_more _ _ c.loop-number.invariant
    (λ (w, found, same).
    let is : w ≡ v = same_Some _ _ (sym found ∙ read) in
    no_truth
    (c.if-is_same.ensures.1
    (subst (λ u. IsSame (view_units u) c.args.wanted.now) is same)))

pub returns : goal.returns
returns c = λ k small. c.loop-number.invariant k (omega arith)

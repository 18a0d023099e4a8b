-- A key above the last one is above all before it.
use Rattle.std.proofs.Common.{◌∙◌, ap, sym, []}
use Rattle.std.specs.Prelude.{map}
use Rattle.std.proofs.lemmas.List.{take_all}
use Rattle.resb_diagnostics.specs.Warnings.{of_keys}
use Rattle.resb_diagnostics.specs.Inner.Looks.{placed_text_of}
use Rattle.resb_diagnostics.specs.declared.text_pieces.StringAt.{StringAt}
use Rattle.resb_diagnostics.proofs.Ascending.{first_alone, still_none, all_below, is_less}
use Rattle.resb_diagnostics.proofs.groups.ascend.Goals as goal

pub loop-at-init : goal.loop-at-init
loop-at-init c = record { none = first_alone c.args.keys.now; below = λ d. tt }

pub loop-at-preserved : goal.loop-at-preserved
loop-at-preserved c =
    let xs = c.args.keys.now in
    let at = c.loop-at.at in
    let d : StringAt = record { content = record { ref_ptr = (0, 0); now = [] }; place = 0 } in
    let less = sym c.cmp.ensures ∙ is_less c.cmp.result (sym c.ne.ensures ∙ c.if-ne.false) in
    let told = c.loop-at.invariant in
    record {
      none = still_none xs at d c.loop-at.auto.at c.loop-at-test.true told.none (told.below d) less;
      below = all_below xs at d c.loop-at.auto.at c.loop-at-test.true told.none (told.below d) less;
    }

pub returns : goal.returns
returns c = λ _.
    ap (λ l. of_keys [] (map placed_text_of l))
    (sym (take_all c.loop-at.at c.args.keys.now c.loop-at-test.false))
    ∙ c.loop-at.invariant.none

use Rattle.std.proofs.Common.{◌≡◌, refl, sym, ◌∙◌, arith, false, length, subst}
use Rattle.resb_diagnostics.specs.IcuMarks.{has_more}
use Rattle.resb_diagnostics.proofs.MarksLemmas.{found_next, found_behind, begins_behind, none_next}
use Rattle.resb_diagnostics.proofs.MarksLemmas.{none_behind}
use Rattle.resb_diagnostics.proofs.icu_marks.mark.Goals as goal

pub bytes-preserved : goal.bytes-preserved
bytes-preserved c =
    let front = sym c.is_behind_root.ensures ∙ c.if-is_behind_root.false in
    record {
      marks = c.behind-marks.ensures;
      none = none_next c.args.text.now c.bytes.at c.bytes.invariant.none front;
      found = found_next c.args.text.now c.bytes.at _ c.bytes.marks c.args.found.now.items
          c.bytes.found.items _ _ c.escape_mark-escape.result c.mixed_mark-mixed.result
          c.bytes.invariant.marks c.bytes.invariant.none front refl c.bytes.invariant.found
          c.escape_mark-escape.ensures c.in_ok-push_some.ensures c.mixed_mark-mixed.ensures
          c.in_ok-push_some-2.ensures;
    }

pub returns-then-is_behind_root-clause-marked : goal.returns-then-is_behind_root-clause-marked
returns-then-is_behind_root-clause-marked c =
    found_behind c.args.text.now c.bytes.at (length c.args.text.now) _ _ _ c.bytes.invariant.none
    (sym c.is_behind_root.ensures ∙ c.if-is_behind_root.true) (omega arith)
    c.bytes.invariant.found c.in_ok-push.ensures.items

pub returns-then-is_behind_root-clause-end : goal.returns-then-is_behind_root-clause-end
returns-then-is_behind_root-clause-end c =
    sym (begins_behind c.args.text.now c.bytes.at (length c.args.text.now) c.bytes.invariant.none
    (sym c.is_behind_root.ensures ∙ c.if-is_behind_root.true) (omega arith))

pub returns-clause-end : goal.returns-clause-end
returns-clause-end c =
    let text = c.args.text.now in
    let e : c.bytes.at ≡ length text = omega arith in
    sym (none_behind text (length text)
    (subst (λ n. has_more text n ≡ false) e c.bytes.invariant.none))

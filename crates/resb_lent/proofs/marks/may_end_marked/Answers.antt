use Rattle.std.proofs.Common.{◌≡◌, ◌-◌, ◌∷◌, [], ◌||◌, ◌∙◌, ap, reverse, sym, get_or}
use Rattle.std.proofs.Common.{false}
use Rattle.std.proofs.lemmas.List.{reverse-append}
use Rattle.resb_lent.specs.Inner.Marks.{is_hit}
use Rattle.resb_lent.proofs.Others.{hit_more}
use Rattle.resb_lent.proofs.marks.may_end_marked.Goals as goal
use Rattle.resb_lent.proofs.marks.may_end_marked.Goals.{After-mark_before-mark}

-- whether it is hit, by its last byte and the others
by_last : (c : After-mark_before-mark)
    → (get_or c.args.marks.now c.mark_before-mark.result false
    || is_hit c.args.marks.now (c.bytes.left - 1) c.mark_before-mark.result
    (reverse c.in-Some.rest.now)) ≡ is_hit c.args.marks.now 4 0 (reverse c.args.text.now)
by_last c =
    let marks = c.args.marks.now in
    let x = c.bytes.bytes.now in
    let z = c.in-Some.rest.now in
    let b = c.in-Some.byte.now in
    let more : reverse x ≡ b ∷ reverse z = ap reverse c.in-Some.ensures.cases.0
    ∙ reverse-append z (b ∷ []) in
    ap (λ m. get_or marks m false || is_hit marks (c.bytes.left - 1) m (reverse z))
    c.mark_before-mark.ensures.is
    ∙ sym (hit_more marks c.bytes.left c.bytes-test.true c.bytes.mark b (reverse z))
    ∙ ap (is_hit marks c.bytes.left c.bytes.mark) (sym more) ∙ c.bytes.invariant.same

pub returns-then-marks-mark : goal.returns-then-marks-mark
returns-then-marks-mark c =
    let a = (goal.at.returns-then-marks-mark c).After-mark_before-mark in
    ap (λ b. b || is_hit c.args.marks.now (c.bytes.left - 1) c.mark_before-mark.result
    (reverse c.in-Some.rest.now)) (sym c.if-marks-mark.true) ∙ by_last a

pub bytes-preserved : goal.bytes-preserved
bytes-preserved c =
    let a = (goal.at.bytes-preserved c).After-mark_before-mark in
    record {
      small = c.mark_before-mark.ensures.small;
      same = ap (λ b. b || is_hit c.args.marks.now (c.bytes.left - 1) c.mark_before-mark.result
          (reverse c.in-Some.rest.now)) (sym c.if-marks-mark.false) ∙ by_last a;
    }

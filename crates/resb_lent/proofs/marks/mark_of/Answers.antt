use Rattle.std.proofs.Common.{◌≡◌, ◌-◌, ◌∷◌, [], ◌∙◌, ap, reverse, sym}
use Rattle.std.proofs.lemmas.List.{reverse-append}
use Rattle.resb_lent.specs.Inner.Marks.{last_mark}
use Rattle.resb_lent.proofs.Others.{mark_more}
use Rattle.resb_lent.proofs.marks.mark_of.Goals as goal

pub bytes-preserved : goal.bytes-preserved
bytes-preserved c =
    let x = c.bytes.bytes.now in
    let z = c.in-Some.rest.now in
    let b = c.in-Some.byte.now in
    let more : reverse x ≡ b ∷ reverse z = ap reverse c.in-Some.ensures.cases.0
    ∙ reverse-append z (b ∷ []) in
    record {
      small = c.mark_before-mark.ensures.small;
      same = ap (λ m. last_mark (c.bytes.left - 1) m (reverse z)) c.mark_before-mark.ensures.is
          ∙ sym (mark_more c.bytes.left c.bytes-test.true c.bytes.mark b (reverse z))
          ∙ ap (last_mark c.bytes.left c.bytes.mark) (sym more) ∙ c.bytes.invariant.same;
    }

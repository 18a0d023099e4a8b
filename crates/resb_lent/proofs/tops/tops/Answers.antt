use Rattle.std.proofs.Common.{◌≡◌, ◌+◌, ◌<◌, length, subst, sym, get_or, refl}
use Rattle.std.proofs.Common.{◌⊎◌, [], ◌∷◌, ◌++◌}
use Rattle.resb_pool.specs.Records.{EndsWith}
use Rattle.resb_lent.specs.Inner.Tops.{AreInOrder, text_of_number}
use Rattle.resb_lent.proofs.TopsFound.{IsFoundBefore, found_none, found_top, found_more}
use Rattle.resb_lent.proofs.TopsFound.{tops_found}
use Rattle.resb_lent.proofs.tops.tops.Goals as goal
use Rattle.resb_lent.proofs.tops.tops.Goals.{then-is_top_behind+in_ok-push, else-is_top_behind}

pub loop-number-init : goal.loop-number-init
loop-number-init c = record {
  utf8 = ([], (refl, refl));
  found = subst (IsFoundBefore c.args.records.now c.deref-number-items.result.now 0 [])
      (sym c.new-tops.ensures.items) (found_none c.args.records.now c.requires _);
}

pub loop-number-preserved : goal.loop-number-preserved
loop-number-preserved c =
    let es = c.args.records.now in
    let u = c.requires in
    let ns = c.deref-number-items.result.now in
    let i = c.loop-number.number-index in
    let o : AreInOrder es ns =
    subst (AreInOrder es) (sym c.deref-number-items.ensures.value) c.in_ok-numbers.ensures in
    let l : i < length ns = c.loop-number-test.true in
    let p = c.loop-number.previous.now in
    let tops = c.loop-number.tops.items in
    let h = c.loop-number.invariant.found in
    let s = c.text_of-text.result.now in
    let is : s ≡ text_of_number es ns i = c.text_of-text.ensures in
    elim c.if-is_top_behind.branch [
      | then-is_top_behind+in_ok-push w ↦
          let k = w.if-is_top_behind.ensures in
          rw (w.previous-is, w.tops-is, w.in_ok-push.ensures.items) (record {
            utf8 = c.text_of-text.utf8;
            found = subst (λ z. IsFoundBefore es ns (i + 1) z (tops ++ get_or ns i 0 ∷ []))
                (sym is) (found_top es u ns o i l p tops h (subst (λ z. 0 < length z) is k.0)
                (λ e. k.1 (subst (EndsWith p) (sym is) e)));
          })
      | else-is_top_behind w ↦
          let k = w.if-is_top_behind.ensures in
          rw (w.previous-is, w.tops-is) (record {
            utf8 = c.text_of-text.utf8;
            found = subst (λ z. IsFoundBefore es ns (i + 1) z tops) (sym is)
                (found_more es u ns o i l p tops h
                (subst (λ z. (length z ≡ 0) ⊎ EndsWith p z) is k));
          })
    ]

pub returns : goal.returns
returns c =
    let es = c.args.records.now in
    tops_found es c.requires c.deref-number-items.result.now c.loop-number.tops.items
    c.loop-number.number-index c.loop-number.previous.now
    (subst (AreInOrder es) (sym c.deref-number-items.ensures.value) c.in_ok-numbers.ensures)
    c.loop-number-test.false c.loop-number.invariant.found

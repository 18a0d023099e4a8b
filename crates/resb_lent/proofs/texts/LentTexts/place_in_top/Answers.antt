use Rattle.std.proofs.Common.{inl, inr, ◌≡◌, ◌∙◌, ap, subst}
use Rattle.resb_lent.specs.Inner.Tops.{numbered_text, Precedes}
use Rattle.resb_lent.proofs.Sorting.{texts_utf8}
use Rattle.resb_lent.proofs.TopsFound.{top_within}
use Rattle.resb_lent.proofs.Union.{held_by_own, held_by_top}
use Rattle.resb_lent.proofs.texts.LentTexts.place_in_top.Goals as goal

pub returns-in_default : goal.returns-in_default
returns-in_default c = λ block S h utf8 given full none k.
    held_by_own c.args.self.now block h S utf8 c.args.text.now full given none c.args.own.now k
    (inl ((rw (c.deref.ensures.value, c.deref-2.ensures.value) at c.in_default.ensures)
    (texts_utf8 c.args.self.now block h) h.tops))

pub returns-then-not-precedes : goal.returns-then-not-precedes
returns-then-not-precedes c = λ block S h utf8 given full none k.
    let top = numbered_text c.args.self.now.records.items c.in-Some.top in
    let is : c.text_of.result.now ≡ top = c.text_of.ensures
    ∙ ap (λ z. numbered_text z c.in-Some.top) c.deref-3.ensures.value in
    held_by_own c.args.self.now block h S utf8 c.args.text.now full given none c.args.own.now k
    (inr (
      top,
      (rw (c.deref.ensures.value, c.deref-2.ensures.value) at c.in-Some.ensures)
          (texts_utf8 c.args.self.now block h) h.tops,
      subst (λ z. Precedes z c.args.own.now → ⊥) is c.if-not-precedes.ensures,
    ))

pub returns : goal.returns
returns c = λ block S h utf8 given full none k.
    let es = c.args.self.now.records.items in
    let top = numbered_text es c.in-Some.top in
    let is : c.text_of.result.now ≡ top = c.text_of.ensures
    ∙ ap (λ z. numbered_text z c.in-Some.top) c.deref-3.ensures.value in
    let found = (rw (c.deref.ensures.value, c.deref-2.ensures.value) at c.in-Some.ensures)
    (texts_utf8 c.args.self.now block h) h.tops in
    held_by_top c.args.self.now block h S utf8 c.args.text.now full given none c.args.own.now k
    top found (subst (λ z. Precedes z c.args.own.now) is c.if-not-precedes.ensures)
    c.place_within.result
    (c.place_within.ensures (top_within es c.in-Some.top found.own.nonempty) block h)

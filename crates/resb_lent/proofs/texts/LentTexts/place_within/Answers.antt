use Rattle.std.proofs.Common.{arith, ◌≡◌, ◌+◌, ◌<◌, [], length, ap, sym, ◌∙◌, subst}
use Rattle.std.proofs.lemmas.List.{get_or-map}
use Rattle.resb_lent.specs.Inner.Tops.{numbered_text}
use Rattle.resb_lent.specs.Inner.Within.{record_bytes}
use Rattle.resb_lent.proofs.Lying.{found_last}
use Rattle.resb_lent.proofs.texts.LentTexts.place_within.Goals as goal

pub returns : goal.returns
returns c = λ w block h.
    let es = c.args.self.now.records.items in
    let n = c.args.number in
    let k = c.last_copy.result in
    let is = c.deref.ensures.value in
    let m : k < length es = omega (arith, c.last_copy.ensures.within, ap length is) in
    let same : numbered_text es k ≡ numbered_text es n =
    subst (λ z. numbered_text z k ≡ numbered_text z n) is c.last_copy.ensures.same in
    found_last c.args.self.now block h k c.index.result.now m (numbered_text es n)
    (λ e. sym (get_or-map record_bytes es k e [] m) ∙ same)
    (λ e l f. c.last_copy.ensures.last (omega (arith, l, ap length is))
    (ap (λ z. numbered_text z (k + 1)) is ∙ get_or-map record_bytes es (k + 1) e [] l ∙ f
    ∙ sym (ap (λ z. numbered_text z n) is)))
    c.args.text.now c.utf8.text c.place_in.result (rw (← c.index.ensures) c.place_in.ensures)

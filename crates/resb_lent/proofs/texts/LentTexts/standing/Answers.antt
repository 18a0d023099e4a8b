use Rattle.std.proofs.Common.{arith, ◌≡◌, ◌+◌, ◌-◌, ◌<◌, length, ap, sym, ◌∙◌, subst}
use Rattle.std.proofs.Common.{true, false, get_or}
use Rattle.std.specs.String.{string_bytes}
use Rattle.resb_lent.specs.Inner.Within.{StandsWithin}
use Rattle.resb_lent.specs.declared.lent_record.LentRecord.{LentRecord}
use Rattle.resb_lent.proofs.Lying.{none_ends, tells_end, same_last, stands_whole}
use Rattle.resb_lent.proofs.texts.LentTexts.standing.Goals as goal

pub returns-then-count-eq0 : goal.returns-then-count-eq0
returns-then-count-eq0 c = λ block h x. none_ends c.args.self.now block h c.args.text.now
    c.utf8.text c.count_up_to-count.result
    (rw c.deref.ensures.value at c.count_up_to-count.ensures.behind) x.0 x.1.0
    c.if-count-eq0.true x.1.1 x.2

pub returns-then-are_same : goal.returns-then-are_same
returns-then-are_same c = λ block h.
    let s = c.args.text.now in
    let es = c.args.self.now.records.items in
    let count = c.count_up_to-count.result in
    let d = c.index-record.result.now in
    let k = count - 1 in
    let is : count ≡ k + 1 = omega (arith, c.if-count-eq0.false) in
    let inside : k < length es =
    omega (arith, is, c.count_up_to-count.ensures.within, ap length c.deref.ensures.value) in
    let found : c.as_str.result.now ≡ string_bytes (get_or es k d).text =
    c.as_str.ensures.value ∙ ap (λ (e : LentRecord). string_bytes e.text) c.index-record.ensures in
    let same = c.if-are_same.ensures in
    subst (λ (e : LentRecord). StandsWithin block s s e.at) (sym c.index-record.ensures)
    (stands_whole c.args.self.now block h s c.utf8.text count
    (rw c.deref.ensures.value at c.count_up_to-count.ensures.behind) k d is inside
    (rw c.deref.ensures.value at c.count_up_to-count.ensures.before k d is)
    (sym found ∙ same))

pub returns-then-has_end : goal.returns-then-has_end
returns-then-has_end c = λ block h.
    let s = c.args.text.now in
    let es = c.args.self.now.records.items in
    let count = c.count_up_to-count.result in
    let d = c.index-record.result.now in
    let k = count - 1 in
    let is : count ≡ k + 1 = omega (arith, c.if-count-eq0.false) in
    let inside : k < length es =
    omega (arith, is, c.count_up_to-count.ensures.within, ap length c.deref.ensures.value) in
    let found : c.as_str.result.now ≡ string_bytes (get_or es k d).text =
    c.as_str.ensures.value ∙ ap (λ (e : LentRecord). string_bytes e.text) c.index-record.ensures in
    let behind = rw c.deref.ensures.value at c.count_up_to-count.ensures.behind in
    let before = rw c.deref.ensures.value at c.count_up_to-count.ensures.before k d is in (
      λ at x y. c.if-are_same.ensures (found
          ∙ same_last c.args.self.now block h s c.utf8.text count behind k d is inside before at x),
      tells_end c.args.self.now block h s c.utf8.text count behind k d is inside before true
          (rw (← c.index-record.ensures) c.if-has_end.ensures),
    )

pub returns-else-has_end : goal.returns-else-has_end
returns-else-has_end c = λ block h.
    let s = c.args.text.now in
    let es = c.args.self.now.records.items in
    let count = c.count_up_to-count.result in
    let d = c.index-record.result.now in
    let k = count - 1 in
    let is : count ≡ k + 1 = omega (arith, c.if-count-eq0.false) in
    let inside : k < length es =
    omega (arith, is, c.count_up_to-count.ensures.within, ap length c.deref.ensures.value) in
    tells_end c.args.self.now block h s c.utf8.text count
    (rw c.deref.ensures.value at c.count_up_to-count.ensures.behind) k d is inside
    (rw c.deref.ensures.value at c.count_up_to-count.ensures.before k d is) false
    (rw (← c.index-record.ensures) c.if-has_end.ensures)

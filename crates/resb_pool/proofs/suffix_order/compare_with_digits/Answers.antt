use Rattle.std.proofs.Common.{◌%◌, sym, ap, ◌∙◌}
use Rattle.std.specs.Ordering.{nat_cmp}
use Rattle.resb_pool.specs.Inner.Suffixes.{last_digits}
use Rattle.resb_pool.proofs.EndKeys.{told_by_digits}
use Rattle.resb_pool.proofs.Numbers.{cmp_equal}
use Rattle.resb_pool.proofs.SameDigits.{same_digits_tie}
use Rattle.resb_pool.proofs.suffix_order.compare_with_digits.Goals as goal

pub returns-in-Equal : goal.returns-in-Equal
returns-in-Equal c =
    let l = c.requires.left in
    let same = cmp_equal c.args.left_digits c.args.right_digits
    (sym c.cmp.ensures ∙ c.in-Equal.is) in
    same_digits_tie c.args.left.now c.args.right.now c.utf8.left c.utf8.right
    (sym l ∙ same ∙ c.requires.right)
    (ap (λ k. k % 256) (sym l) ∙ c.if-left_digits-eq-END.true)

pub returns-in_default : goal.returns-in_default
returns-in_default c = told_by_digits c.args.left.now c.args.right.now c.utf8.left c.utf8.right
    c.cmp.result
    (c.cmp.ensures ∙ ap (λ x. nat_cmp x c.args.right_digits) c.requires.left
    ∙ ap (nat_cmp (last_digits c.args.left.now)) c.requires.right)
    c.in_default.not-Equal

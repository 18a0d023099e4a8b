use Rattle.std.proofs.Common.{◌≡◌, ◌<◌, Bool, true, false, not, length, refl, ◌∙◌, arith}
use Rattle.resb_pool.specs.Inner.Suffixes.{digits_backwards, row_text}
use Rattle.resb_pool.proofs.EndKeys.{text_utf8}
use Rattle.resb_pool.proofs.Numbers.{more_than_zero}
use Rattle.resb_pool.proofs.FewDigits.{few_digits}
use Rattle.resb_pool.proofs.suffix_order.is_whole_in_row.Goals as goal

pub returns-then-row-lt16 : goal.returns-then-row-lt16
returns-then-row-lt16 c = λ T utf8 h e.
    let s = row_text T c.args.row.now in
    let u = text_utf8 T c.args.row.now.index utf8 in
    let left = more_than_zero c.args.row.now.left c.if-row-eq0.false in
    let some : 0 < length (digits_backwards s) = omega (arith, h.left_is, c.if-row-lt16.true) in
    let few : length (digits_backwards s) < 16 = omega (arith, h.left_is, left) in
    few_digits s u some few (c.has_zero_digit.ensures s u (c.key_of.ensures ∙ h.key_is)
    (not_true c.has_zero_digit.result e))
  where
    not_true : (b : Bool) → not b ≡ true → b ≡ false
    not_true true e = cc
    not_true false e = refl

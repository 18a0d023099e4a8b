use Rattle.std.proofs.Common.{◌≡◌, ◌≤◌, ◌-◌, sym, ◌∙◌, arith}
use Rattle.std.proofs.lemmas.Bool.{eq-eqb, eqb-true}
use Rattle.resb_pool.specs.Inner.Suffixes.{digits_backwards, key_of_digits, row_text}
use Rattle.resb_pool.proofs.EndKeys.{text_utf8}
use Rattle.resb_pool.proofs.EndDigits.{same_digits, digits_tell}
use Rattle.resb_pool.proofs.suffix_order.may_end_with.Goals as goal

pub returns : goal.returns
returns c = λ T utf8 h k.
    let s = row_text T c.args.end.now in
    let t = row_text T c.args.row.now in
    let u = text_utf8 T c.args.end.now.index utf8 in
    let v = text_utf8 T c.args.row.now.index utf8 in
    let left = c.args.end.now.left in
    let most : left ≤ 16 = omega (arith, k.left_is) in
    let first : c.without_lowest.result ≡ key_of_digits 0 (16 - left) (digits_backwards t) =
    c.without_lowest.ensures t v (c.key_of.ensures ∙ h.key_is) most in
    let second : c.without_lowest-2.result ≡ key_of_digits 0 (16 - left) (digits_backwards s) =
    c.without_lowest-2.ensures s u (c.key_of-2.ensures ∙ k.key_is) most in
    record {
      yes = λ ends. eq-eqb _ _ (first ∙ same_digits s t (16 - left) u v (omega (arith, k.left_is))
          ends ∙ sym second);
      only = λ q l. digits_tell s t (16 - left) u v (omega (arith, k.left_is, l))
          (sym first ∙ eqb-true _ _ q ∙ second);
    }

use Rattle.std.proofs.Common.{sym, ◌∙◌, ap, nat_eq}
use Rattle.std.specs.List.{list_any}
use Rattle.resb_pool.specs.Inner.Suffixes.{digits_backwards}
use Rattle.resb_pool.proofs.Digits.{small_key}
use Rattle.resb_pool.proofs.KeyDigits.{no_zero_digit}
use Rattle.resb_pool.proofs.suffix_order.has_zero_digit.Goals as goal

pub returns : goal.returns
returns c = λ s u e none. no_zero_digit c.args.key (digits_backwards s) (small_key s u) e
    (ap (list_any (λ b. nat_eq b 0)) (sym c.to_be_bytes.ensures)
    ∙ sym c.contains.ensures.value ∙ none)

use Rattle.std.proofs.Common.{◌*◌, ◌/◌, ◌^◌, nat_lt, if◌then◌else◌, ◌∙◌, ap}
use Rattle.resb_pool.specs.Inner.Suffixes.{digits_backwards}
use Rattle.resb_pool.proofs.Digits.{small_key}
use Rattle.resb_pool.proofs.KeyDigits.{first_digits}
use Rattle.resb_pool.proofs.suffix_order.without_lowest.Goals as goal

pub returns : goal.returns
returns c = λ t u e l. c.unbounded_shr.ensures
    ∙ ap (λ k. if nat_lt (8 * k) 128 then c.args.key / 2 ^ (8 * k) else 0) c.from.ensures
    ∙ first_digits c.args.count c.args.key (digits_backwards t) (small_key t u) l e

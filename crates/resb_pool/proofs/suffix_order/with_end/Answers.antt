use Rattle.std.proofs.Common.{◌+◌, ◌*◌, ◌/◌, ◌%◌, ◌^◌, ◌-◌, nat_lt, if◌then◌else◌, ◌≡◌, ◌∙◌, arith}
use Rattle.std.proofs.Common.{ap, []}
use Rattle.resb_pool.specs.Inner.Suffixes.{key_of_digits}
use Rattle.resb_pool.proofs.KeyDigits.{filled}
use Rattle.resb_pool.proofs.suffix_order.with_end.Goals.{After-unbounded_shl}
use Rattle.resb_pool.proofs.suffix_order.with_end.Goals as goal

sum_is : (c : After-unbounded_shl) → c.unbounded_shl.result + c.unbounded_shr-ends.result
    ≡ key_of_digits c.args.key.number c.args.key.left []
sum_is c =
    let f = c.args.key in
    let high = c.unbounded_shl.ensures
    ∙ ap (λ k. if nat_lt (8 * k) 128 then f.number * 2 ^ (8 * k) % 2 ^ 128 else 0)
    c.from-bits.ensures in
    let low = c.unbounded_shr-ends.ensures
    ∙ ap (λ k. if nat_lt (128 - 8 * k) 128 then (2 ^ 128 - 1) / 2 ^ (128 - 8 * k) else 0)
    c.from-bits.ensures in
    rw (high, low) (filled f.left f.number c.requires.most c.requires.small).0

pub overflow_add-result : goal.overflow_add-result
overflow_add-result c =
    let f = c.args.key in
    omega (arith, sum_is c, (filled f.left f.number c.requires.most c.requires.small).1)

pub returns-clause-number : goal.returns-clause-number
returns-clause-number c = sum_is c

use Rattle.std.proofs.Common.{◌-◌, ◌*◌, ◌+◌, ◌<◌, ap, ◌∙◌, arith}
use Rattle.resb_pool.proofs.Numbers.{more_than_zero}
use Rattle.resb_pool.specs.Inner.Suffixes.{key_of_digits}
use Rattle.resb_pool.proofs.EndKeys.{bound_fits, next_digit}
use Rattle.resb_pool.proofs.suffix_order.with_digit.Goals as goal

pub overflow_mul-result : goal.overflow_mul-result
overflow_mul-result c =
    let p = c.requires.part in
    let some : 0 < c.args.key.left = more_than_zero c.args.key.left c.if-key-eq0.false in
    omega (arith, p.small, bound_fits (16 - c.args.key.left) (omega (arith, some, p.most)))

pub overflow_add-result : goal.overflow_add-result
overflow_add-result c =
    let p = c.requires.part in
    let some : 0 < c.args.key.left = more_than_zero c.args.key.left c.if-key-eq0.false in
    omega (
      arith,
      p.small,
      c.requires.digit,
      c.from.ensures,
      bound_fits (16 - c.args.key.left) (omega (arith, some, p.most)),
    )

pub returns-clause-same : goal.returns-clause-same
returns-clause-same c = λ ds.
    ap (λ d. key_of_digits (c.args.key.number * 256 + d) (c.args.key.left - 1) ds) c.from.ensures
    ∙ next_digit c.args.key.left c.args.key.number c.args.digit ds
    (more_than_zero c.args.key.left c.if-key-eq0.false)

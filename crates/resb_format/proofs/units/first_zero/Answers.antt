-- Where the loop ends, no unit is 0.
use Rattle.std.proofs.Common.{◌≡◌, length, nat_eq, sym, arith}
use Rattle.std.proofs.lemmas.List.Sums.{position_or_len_is}
use Rattle.resb_format.specs.Views.{view_units}
use Rattle.resb_format.proofs.units.first_zero.Goals as goal

pub returns-clause-value : goal.returns-clause-value
returns-clause-value c =
    let e : c.len.result ≡ length (view_units c.args.units) = c.len.ensures in
    sym (position_or_len_is (λ x. nat_eq x 0) (view_units c.args.units) c.len.result 0 (omega arith)
    (λ k h. c.loop-number.invariant k (omega arith)) (λ h. absurd (omega arith)))

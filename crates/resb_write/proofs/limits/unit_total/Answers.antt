-- An iteration adds the units of the next text.
use Rattle.std.proofs.Common.{List, ℕ, [], ◌∷◌, length, get_or, take, ap, arith}
use Rattle.std.proofs.lemmas.List.Sums.{sum_by-append}
use Rattle.resb_format.specs.Units.{units}
use Rattle.resb_pool.specs.Plan.{nows}
use Rattle.resb_pool.proofs.TextLoops.{blank, nows-take}
use Rattle.resb_write.specs.Inner.Gathered.{units_in}
use Rattle.resb_write.proofs.Gathering.{one_units}
use Rattle.resb_write.proofs.limits.unit_total.Goals as goal

pub loop-text-preserved : goal.loop-text-preserved
loop-text-preserved c =
    let xs = c.args.texts.now in
    let i = c.loop-text.text-index in
    let t = (get_or xs i blank).now in
    omega (
      arith,
      c.loop-text.invariant,
      c.saturating_add-total.ensures,
      c.utf16_len.ensures.count,
      ap units_in (nows-take xs i blank c.loop-text-test.true),
      sum_by-append (λ (s : List ℕ). length (units s)) (nows (take i xs)) (t ∷ []),
      one_units t,
    )

use Rattle.std.proofs.Common.{None, Some, cond, length, sym, ap, arith}
use Rattle.std.proofs.lemmas.Bool.{le-leb}
use Rattle.resb_format.specs.Units.{units}
use Rattle.resb_format.proofs.TextUnits.{units_within}
use Rattle.resb_pool.proofs.measure.excessive_len.Goals as goal

pub returns-then-text-le-LONGEST : goal.returns-then-text-le-LONGEST
returns-then-text-le-LONGEST c =
    let n = length (units c.args.text.now) in
    sym (ap (λ b. cond b None (Some n)) (le-leb n 4294967295 (omega (
      arith,
      units_within c.args.text.now c.utf8.text,
      c.if-text-le-LONGEST.true,
    ))))

use Rattle.std.proofs.Common.{refl, sym, ◌∙◌, arith}
use Rattle.std.specs.Cmp.Lexicographic.{bytes_decides}
use Rattle.resb_pool.proofs.Interning.{stored_at, length-nows}
use Rattle.resb_pool.proofs.holders.is_at.Goals as goal

pub returns-in-Some : goal.returns-in-Some
returns-in-Some c = λ t.
    let keys = c.args.distinct.now.keys in
    let k = c.in-Some.found.now in (
      omega (arith, c.in-Some.ensures.found.0 refl, length-nows keys),
      stored_at keys c.args.index k (sym c.in-Some.ensures.key)
          ∙ (bytes_decides k.now c.args.text.now).0 (sym c.eq.ensures ∙ t),
    )

use Rattle.std.proofs.Common.{rules, sym, ◌∙◌, ap}
use Rattle.std.specs.Int.{to_le_bytes, w64}
use Rattle.std.proofs.lemmas.Bool.{eqb-true}
use Rattle.std.proofs.lemmas.Nat.{le_bytes_8}
use Rattle.resb_pool.proofs.suffix_order.are_same.Goals as goal

pub returns : goal.returns
returns c = λ t.
    sym (le_bytes_8 c.args.left.now _ (search rules) (search rules) c.from_le_bytes.ensures)
    ∙ ap (to_le_bytes w64) (eqb-true _ _ t)
    ∙ le_bytes_8 c.args.right.now _ (search rules) (search rules) c.from_le_bytes-2.ensures

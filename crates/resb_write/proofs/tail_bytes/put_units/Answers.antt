use Rattle.std.proofs.Common.{◌++◌, sym, ◌∙◌, ap, take, get_or}
use Rattle.std.specs.Int.{to_le_bytes, w16}
use Rattle.std.proofs.lemmas.List.{take_more, flat_map_more}
use Rattle.resb_format.specs.Bytes.{units_as_bytes}
use Rattle.resb_write.proofs.tail_bytes.put_units.Goals as goal

pub loop-unit-preserved : goal.loop-unit-preserved
loop-unit-preserved c =
    let bs = c.args.tail.now.items in
    let us = c.args.units.now in
    let i = c.loop-unit.unit-index in
    c.in_ok-put_half.ensures
    ∙ ap (λ l. l ++ to_le_bytes w16 (get_or us i 0)) c.loop-unit.invariant
    ∙ flat_map_more (to_le_bytes w16) bs (take i us) (get_or us i 0)
    ∙ ap (λ l. bs ++ units_as_bytes l) (sym (take_more us i 0 c.loop-unit-test.true))

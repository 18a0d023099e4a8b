use Rattle.std.proofs.Common.{◌++◌, ◌∷◌, [], sym, ◌∙◌, ap, append_assoc}
use Rattle.resb_layout.specs.Laid.{fill}
use Rattle.resb_write.proofs.Closings.{fill_next}
use Rattle.resb_write.proofs.tail_bytes.put_fill.Goals as goal

pub loop-written-preserved : goal.loop-written-preserved
loop-written-preserved c =
    c.in_ok-push.ensures.items ∙ ap (λ l. l ++ 0xaa ∷ []) c.loop-written.invariant
    ∙ append_assoc c.args.tail.now.items (fill c.loop-written._written) (0xaa ∷ [])
    ∙ ap (λ l. c.args.tail.now.items ++ l) (sym (fill_next c.loop-written._written))

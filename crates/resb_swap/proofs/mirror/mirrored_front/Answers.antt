use Rattle.std.proofs.Common.{arith}
use Rattle.std.proofs.lemmas.Grind.{common_steps}
use Rattle.resb_swap.specs.Swapped.{mirrored_byte}
use Rattle.resb_swap.proofs.Places.{byte_more}
use Rattle.resb_swap.proofs.mirror.mirrored_front.Goals as goal

pub loop-place-preserved : goal.loop-place-preserved
loop-place-preserved c = record {
  as_long = grind (arith, common_steps);
  each = byte_more _ _ _ _ (mirrored_byte c.args.roles.now c.args.bytes.now)
      c.in_ok-push.ensures.items c.loop-place.invariant.as_long c.mirrored_byte.ensures
      c.loop-place.invariant.each;
}

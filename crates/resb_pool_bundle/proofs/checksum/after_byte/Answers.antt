-- One bit more is one step more.
use Rattle.std.proofs.Common.{ℕ, zero, suc, ◌≡◌, ◌+◌, ap, sym, ◌∙◌, refl, arith}
use Rattle.std.specs.Fn.{iterate}
use Rattle.resb_pool_bundle.specs.Checksum.{bit_step}
use Rattle.resb_pool_bundle.proofs.checksum.after_byte.Goals as goal

one_step_more : (h : ℕ → ℕ) (n x : ℕ) → iterate h (n + 1) x ≡ h (iterate h n x)
one_step_more h zero x = refl
one_step_more h (suc n) x =
    let e : suc n + 1 ≡ suc (n + 1) = omega arith in
    rw e (one_step_more h n (h x))

pub bits-preserved : goal.bits-preserved
bits-preserved c =
    c.after_bit-crc.ensures ∙ ap bit_step c.bits.invariant
    ∙ sym (one_step_more bit_step c.bits._count _)

-- One blank more is appended, and one less is left.
use Rattle.std.proofs.Common.{◌≡◌, ◌∙◌, ◌+◌, ◌-◌, ◌++◌, ◌∷◌, [], suc, sym, ap, append_assoc, arith}
use Rattle.std.proofs.Common.{replicate}
use Rattle.std.specs.String.{string_bytes}
use lib.Utf8.{encode}
use Rattle.resb_diagnostics.proofs.excerpt.push_blanks.Goals as goal

pub loop-blank-preserved : goal.loop-blank-preserved
unfolding encode
loop-blank-preserved c =
    let m = c.args.count - (c.loop-blank.blank + 1) in
    let e : c.args.count - c.loop-blank.blank ≡ suc m = omega arith in
    let old = string_bytes c.loop-blank.out in
    ap (λ l. l ++ replicate m 32) c.in_ok-push.ensures.bytes
    ∙ append_assoc old (32 ∷ []) (replicate m 32)
    ∙ ap (λ n. old ++ replicate n 32) (sym e)
    ∙ c.loop-blank.invariant

use Rattle.std.proofs.Common.{length, arith, ap}
use Rattle.std.specs.Prelude.{encode_utf8_all}
use Rattle.resb_format.proofs.Spelled.{units_length}
use Rattle.resb_walk.proofs.Surrogates.{no_units_no_chars}
use Rattle.resb_walk.proofs.units.text_len.Goals as goal

pub overflow_add-len : goal.overflow_add-len
overflow_add-len c =
    let bs = c.args.bytes.now in
    let most = c.chars.invariant.1 in
    let fewer = c.in-Some.ensures.1 in
    let four = c.len_utf8-len.ensures.upper_bound in
    omega (arith, most, fewer, four, units_length bs)

pub returns : goal.returns
returns c =
    let none = ap (λ us. length (encode_utf8_all us)) (no_units_no_chars _ c.in_default.ensures) in
    omega (arith, c.chars.invariant.0, none)

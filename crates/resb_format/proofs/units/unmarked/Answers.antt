-- The window is the first 41 units, and the string is what stands before its first 0.
use Rattle.std.proofs.Common.{◌≡◌, ◌<◌, ◌≤◌, ℕ, List, length, take, drop, nat_eq, sym, ◌∙◌, ap}
use Rattle.std.proofs.Common.{arith, Some}
use Rattle.std.specs.List.{position_or_len}
use Rattle.resb_format.specs.Bytes.{units_of}
use Rattle.resb_format.specs.Strings.{before_zero}
use Rattle.resb_format.specs.Views.{view_units}
use Rattle.resb_format.proofs.StringsIn.{window_is, ends_at_zero, lacks_zero}
use Rattle.resb_format.proofs.units.unmarked.Goals as goal

pub returns-then-end-len : goal.returns-then-end-len
returns-then-end-len c =
    let us : List ℕ = view_units c.units_in-window.result in
    let e : us ≡ take 41 (drop c.args.unit (units_of c.args.block.now)) =
    window_is c.args.block.now c.args.unit us
    (c.units_in-window.ensures ∙ ap (λ n. take n (drop c.args.unit (units_of c.args.block.now)))
    c.min.ensures) in
    let p : length us ≤ position_or_len (λ x. nat_eq x 0) us =
    omega (arith, c.first_zero-end.ensures.value, c.len.ensures) in
    (ap before_zero (sym e) ∙ lacks_zero us p, c.invalid_data.ensures)

pub returns : goal.returns
returns c =
    let us : List ℕ = view_units c.units_in-window.result in
    let e : us ≡ take 41 (drop c.args.unit (units_of c.args.block.now)) =
    window_is c.args.block.now c.args.unit us
    (c.units_in-window.ensures ∙ ap (λ n. take n (drop c.args.unit (units_of c.args.block.now)))
    c.min.ensures) in
    let p : position_or_len (λ x. nat_eq x 0) us < length us =
    omega (
      arith,
      c.first_zero-end.ensures.value,
      c.len.ensures,
      c.first_zero-end.ensures.small,
    ) in
    let f : view_units c.units_in.result ≡ take (position_or_len (λ x. nat_eq x 0) us) us =
    c.units_in.ensures ∙ ap (λ bs. take c.first_zero-end.result (units_of bs))
    c.as_bytes.ensures.bytes ∙ ap (λ n. take n us) c.first_zero-end.ensures.value in
    ap before_zero (sym e) ∙ ends_at_zero us p ∙ ap Some (sym f)

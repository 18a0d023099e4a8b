use Rattle.std.proofs.Common.{◌≡◌, ◌+◌, ◌-◌, arith, false, true, refl, get_or}
use Rattle.std.specs.Char.Utf16.{is_high_surrogate, is_low_surrogate}
use Rattle.resb_format.specs.Bytes.{units_of}
use Rattle.resb_format.proofs.Spelled.{units_length}
use Rattle.resb_blocks.proofs.Linked.{empty_range_is_well_formed, text_by_breaks, breaks_of_text}
use Rattle.resb_blocks.proofs.breaks.Breaks.is_text.Goals as goal

pub returns-then-count-eq0 : goal.returns-then-count-eq0
returns-then-count-eq0 c =
    let us = units_of c.args.self.now.block.now in
    (λ _. empty_range_is_well_formed us c.args.from c.args.count c.if-count-eq0.true, λ _. refl)

pub returns-then-is_low : goal.returns-then-is_low
returns-then-is_low c =
    let bs = c.args.self.now.block.now in
    let us = units_of bs in
    let low : is_low_surrogate (get_or us c.args.from 0) ≡ true = cc in (
      λ h. absurd cc,
      λ w. (let h = breaks_of_text us c.args.from c.args.count (omega (arith, units_length bs))
          (omega arith) w in
          absurd (let f = h.0 in cc)),
    )

pub returns-then-is_high : goal.returns-then-is_high
returns-then-is_high c =
    let bs = c.args.self.now.block.now in
    let us = units_of bs in
    let high : is_high_surrogate (get_or us (c.args.from + c.args.count - 1) 0) ≡ true = cc in (
      λ h. absurd cc,
      λ w. (let h = breaks_of_text us c.args.from c.args.count (omega (arith, units_length bs))
          (omega arith) w in
          absurd (let f = h.1 in cc)),
    )

pub returns : goal.returns
returns c =
    let bs = c.args.self.now.block.now in
    let us = units_of bs in
    let low : is_low_surrogate (get_or us c.args.from 0) ≡ false = cc in
    let high : is_high_surrogate (get_or us (c.args.from + c.args.count - 1) 0) ≡ false = cc in (
      λ h. text_by_breaks us c.args.from c.args.count (omega (arith, units_length bs))
          (omega arith) low high (c.are_joined.ensures.0 h),
      λ w. (let h = breaks_of_text us c.args.from c.args.count (omega (arith, units_length bs))
          (omega arith) w in
          c.are_joined.ensures.1 h.2),
    )

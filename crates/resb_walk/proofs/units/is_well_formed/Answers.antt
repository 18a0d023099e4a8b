use Rattle.std.proofs.Common.{◌≡◌, true, false, sym, ap, ◌∙◌}
use Rattle.std.specs.Prelude.{not}
use Rattle.std.specs.Char.Utf16.{is_high_surrogate, is_low_surrogate}
use Rattle.resb_format.specs.Bytes.{units_of}
use Rattle.resb_walk.proofs.Surrogates.{high_before_no_low, a_pair, low_alone}
use Rattle.resb_walk.proofs.units.is_well_formed.Goals as goal

pub returns-then-not-is_low : goal.returns-then-not-is_low
returns-then-not-is_low c =
    let h : is_high_surrogate c.in-Some.first ≡ true = cc in
    let l : is_low_surrogate c.in-Some-first_unit.second ≡ false = cc in
    ap not (sym (c.units.invariant
    ∙ high_before_no_low (units_of c.units.rest.now) c.in-Some.first c.in-Some-first_unit.second
    (units_of c.in-Some.later.now) (units_of c.in-Some-first_unit.after.now)
    c.in-Some.ensures c.in-Some-first_unit.ensures h l))

pub units-preserved-then-is_high : goal.units-preserved-then-is_high
units-preserved-then-is_high c =
    let h : is_high_surrogate c.in-Some.first ≡ true = cc in
    let l : is_low_surrogate c.in-Some-first_unit.second ≡ true = cc in
    c.units.invariant
    ∙ a_pair (units_of c.units.rest.now) c.in-Some.first c.in-Some-first_unit.second
    (units_of c.in-Some.later.now) (units_of c.in-Some-first_unit.after.now)
    c.in-Some.ensures c.in-Some-first_unit.ensures h l

pub returns-then-is_low : goal.returns-then-is_low
returns-then-is_low c =
    let h : is_high_surrogate c.in-Some.first ≡ false = cc in
    let l : is_low_surrogate c.in-Some.first ≡ true = cc in
    ap not (sym (c.units.invariant
    ∙ low_alone (units_of c.units.rest.now) c.in-Some.first
    (units_of c.in-Some.later.now) c.in-Some.ensures h l))

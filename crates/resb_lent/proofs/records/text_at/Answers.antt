use Rattle.std.proofs.Common.{◌≡◌, ap, sym, ◌∙◌, option_and_then}
use Rattle.resb_format.specs.Bytes.{units_of}
use Rattle.resb_format.specs.Strings as strings
use Rattle.resb_lent.proofs.records.text_at.Goals as goal

pub returns-in_default : goal.returns-in_default
unfolding strings.text_at
returns-in_default c = ap (option_and_then strings.text_of_units) (sym c.in_default.ensures.0)

pub returns : goal.returns
unfolding strings.text_at
returns c =
    let us = units_of c.args.block.now in
    let e : strings.text_of_units c.deref.result.now ≡ strings.text_at us c.args.unit =
    ap strings.text_of_units (c.deref.ensures.value ∙ c.in_ok-units.ensures)
    ∙ sym (ap (option_and_then strings.text_of_units) c.in-Ok.ensures) in
    rw (← e) c.spelled.ensures

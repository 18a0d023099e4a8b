use Rattle.std.proofs.Common.{Some, ap, ◌∙◌, sym}
use Rattle.std.specs.Prelude.{option_map}
use Rattle.resb_format.specs.Bytes.{units_of}
use Rattle.resb_format.specs.Bytes.{units_as_bytes}
use Rattle.resb_read.proofs.texts.units_at.Goals as goal

pub returns-clause-stands : goal.returns-clause-stands
returns-clause-stands c =
    ap (option_map units_as_bytes) c.in_ok-view.ensures
    ∙ ap (λ x. Some (units_as_bytes (units_of x))) (sym c.as_bytes.ensures.bytes)
    ∙ ap Some (c.whole_units.ensures.written ∙ sym c.whole_units.ensures.same)

-- By the breaks, or by a look at the units.
use Rattle.std.proofs.Common.{ap, sym, ◌∙◌}
use Rattle.resb_format.specs.Parts.{parts_in}
use Rattle.resb_walk.specs.Inner.Members.{text_of_bytes}
use Rattle.resb_walk.proofs.Counted.{counted_known, counted_well}
use Rattle.resb_walk.proofs.checker.Checker.counted.Goals as goal

pub returns-then-has_units-clause-looks : goal.returns-then-has_units-clause-looks
returns-then-has_units-clause-looks c =
    let self = c.args.self.now in
    let found = c.in_ok-units.ensures in
    counted_known (parts_in self.file) c.args.word self.counted.block.now c.in_ok-units.units.now
    (ap (λ b. b.now) self.of_body) found.place found.stands
    (c.has_units.ensures c.if-has_units.true).1

pub returns-clause-looks : goal.returns-clause-looks
returns-clause-looks c =
    let bytes = c.in_ok-units.units.now in (
      text_of_bytes bytes,
      counted_well (parts_in c.args.self.now.file) c.args.word bytes c.in_ok-units.ensures.stands
          (sym c.if-not-is_well_formed.false ∙ c.is_well_formed.ensures),
    )

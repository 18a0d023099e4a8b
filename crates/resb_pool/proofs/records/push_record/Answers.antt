use Rattle.std.proofs.Common.{◌++◌, ◌∷◌, [], ◌∙◌, ap, append_assoc, length, length-append, arith}
use Rattle.resb_format.specs.Units.{units, marker}
use Rattle.resb_pool.proofs.records.push_record.Goals as goal

pub returns-clause-appends : goal.returns-clause-appends
returns-clause-appends c =
    let old = c.args.units.now.items in
    let text = c.args.text.now in
    c.in_ok-push.ensures.items
    ∙ ap (λ l. l ++ 0 ∷ []) (c.in_ok-push_units.ensures
    ∙ ap (λ l. l ++ units text) c.in_ok-push_marker.ensures)
    ∙ append_assoc (old ++ marker text) (units text) (0 ∷ [])
    ∙ append_assoc old (marker text) (units text ++ 0 ∷ [])

pub returns-clause-end : goal.returns-clause-end
returns-clause-end c =
    let old = c.args.units.now.items in
    let text = c.args.text.now in
    omega (
      arith,
      c.len-end.ensures,
      c.push_units.new.units.ok.0,
      ap length c.in_ok-push_units.ensures,
      length-append c.push_marker.new.units.items (units text),
      ap length c.in_ok-push_marker.ensures,
      length-append old (marker text),
    )

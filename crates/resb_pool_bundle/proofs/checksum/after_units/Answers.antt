-- One unit more is one step more.
use Rattle.std.proofs.Common.{ℕ, List, ◌%◌, ◌<◌, ◌≤◌, length, ap, sym, ◌∙◌, arith}
use Rattle.std.specs.List.{fold}
use Rattle.std.proofs.lemmas.List.{take_all}
use Rattle.std.proofs.lemmas.List.Sums.{fold_more}
use Rattle.resb_format.specs.Bytes.{units_of}
use Rattle.resb_format.proofs.Spelled.{units_length}
use Rattle.resb_pool_bundle.specs.Checksum.{byte_step, unit_step}
use Rattle.resb_pool_bundle.proofs.checksum.after_units.Goals as goal

pub units-preserved : goal.units-preserved
units-preserved c =
    let units : List ℕ = units_of c.args.block.now in
    let inside : c.units.number < length units =
    omega (arith, units_length c.args.block.now, c.units-test.true) in
    c.after_byte-crc-in-units.ensures
    ∙ ap (λ crc. byte_step crc (c.unit_at-unit.result % 256)) c.after_byte-crc.ensures
    ∙ (λ i. unit_step (c.units.invariant i) (c.unit_at-unit.ensures i))
    ∙ sym (fold_more unit_step c.args.crc units c.units.number 0 inside)

pub returns : goal.returns
returns c =
    let units : List ℕ = units_of c.args.block.now in
    let all : length units ≤ c.units.number =
    omega (arith, units_length c.args.block.now, c.units-test.false) in
    c.units.invariant ∙ ap (fold unit_step c.args.crc) (take_all c.units.number units all)

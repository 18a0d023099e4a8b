use Rattle.std.proofs.Common.{ℕ, ◌+◌, ◌-◌, ◌/◌, ◌∙◌, ap, sym, subst, arith, Some}
use Rattle.std.proofs.lemmas.Slice.Zip.{length-zip}
use Rattle.resb_format.specs.Parts.{Parts, parts_in}
use Rattle.resb_walk.specs.Inner.Members.{positions_of, members_of, member_of}
use Rattle.resb_read.specs.Sequences.{at_spot}
use Rattle.resb_read.specs.Inner.Elements.{entry_places}
use Rattle.resb_read.specs.Tables.{HasEntry}
use Rattle.resb_read.proofs.Ascending.{keys_ascend_sound}
use Rattle.resb_read.proofs.Halving.{has_entry, last_here, left_before, left_behind, none_left}
use Rattle.resb_read.proofs.tables.found_by_halves.Goals as goal

pub position_at-requires : goal.position_at-requires
position_at-requires c =
    let both = length-zip (positions_of c.args.entries.keys) (members_of c.args.entries.members) in
    let (upward, inside, left) = c.halves.invariant in
    omega (arith, both, inside, c.halves-test.true)

pub member_at-requires : goal.member_at-requires
member_at-requires c =
    let both = length-zip (positions_of c.args.entries.keys) (members_of c.args.entries.members) in
    let (upward, inside, left) = c.halves.invariant in
    omega (arith, both, inside, c.halves-test.true)

pub returns-in-Equal-clause-found : goal.returns-in-Equal-clause-found
returns-in-Equal-clause-found c =
    let middle : ℕ = c.halves.low + (c.halves.high - c.halves.low) / 2 in
    let (upward, inside, left) = c.halves.invariant in
    let p : Parts = parts_in c.args.file in
    let es = entry_places c.args.file c.args.entries in
    subst (λ s. HasEntry c.args.name.now es (at_spot p s)) (sym c.spot_of-at.ensures)
    (has_entry c.args.name.now p (positions_of c.args.entries.keys)
    (members_of c.args.entries.members) middle c.position_at.result
    (omega (arith, c.halves-test.true, inside)) c.position_at.ensures
    (member_of c.member_at.result) c.member_at.ensures (c.order_of.ensures.equal c.in-Equal.is))

pub returns-in-Equal-clause-exact : goal.returns-in-Equal-clause-exact
returns-in-Equal-clause-exact c h =
    let middle : ℕ = c.halves.low + (c.halves.high - c.halves.low) / 2 in
    let (upward, inside, left) = c.halves.invariant in
    let some = c.halves-test.true in
    let p : Parts = parts_in c.args.file in
    ap (λ s. Some (at_spot p s)) c.spot_of-at.ensures
    ∙ last_here c.args.name.now p (positions_of c.args.entries.keys)
    (members_of c.args.entries.members) middle c.position_at.result
    (omega (arith, some, inside)) c.position_at.ensures c.halves.low c.halves.high
    c.order_of.result (omega arith) (omega (arith, some)) inside left c.order_of.ensures.ordered
    (member_of c.member_at.result) c.member_at.ensures c.in-Equal.is
    (keys_ascend_sound (entry_places c.args.file c.args.entries) h)

pub halves-preserved-in-Less : goal.halves-preserved-in-Less
halves-preserved-in-Less c =
    let middle : ℕ = c.halves.low + (c.halves.high - c.halves.low) / 2 in
    let (upward, inside, left) = c.halves.invariant in
    let some = c.halves-test.true in (
      omega (arith, some),
      omega (arith, some, inside),
      left_before c.args.name.now (parts_in c.args.file) (positions_of c.args.entries.keys)
          (members_of c.args.entries.members) middle c.position_at.result
          (omega (arith, some, inside)) c.position_at.ensures c.halves.low c.halves.high
          c.order_of.result (omega arith) (omega (arith, some)) inside left
          c.order_of.ensures.ordered c.in-Less.is,
    )

pub halves-preserved : goal.halves-preserved
halves-preserved c =
    let middle : ℕ = c.halves.low + (c.halves.high - c.halves.low) / 2 in
    let (upward, inside, left) = c.halves.invariant in
    let some = c.halves-test.true in (
      omega (arith, some),
      omega (arith, some, inside),
      left_behind c.args.name.now (parts_in c.args.file) (positions_of c.args.entries.keys)
          (members_of c.args.entries.members) middle c.position_at.result
          (omega (arith, some, inside)) c.position_at.ensures c.halves.low c.halves.high
          c.order_of.result (omega arith) (omega (arith, some)) inside left
          c.order_of.ensures.ordered c.in-Greater.is,
    )

pub returns-clause-exact : goal.returns-clause-exact
returns-clause-exact c h =
    let es = entry_places c.args.file c.args.entries in
    let (upward, inside, left) = c.halves.invariant in
    none_left c.args.name.now es c.halves.low c.halves.high c.halves-test.false left
    (keys_ascend_sound es h)

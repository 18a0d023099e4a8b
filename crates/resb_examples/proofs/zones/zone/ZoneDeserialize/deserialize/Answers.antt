use Rattle.std.proofs.Common.{rules, ◌+◌, inl, inr, Some, length, sym, ap, ◌∙◌, arith}
use Rattle.std.proofs.lemmas.Int.{to_z-of_z}
use mir.Syntax.{w32}
use mir.Val.{SFits}
use Rattle.resb.specs.Places.{place_of}
use Rattle.resb_examples.proofs.Costs.{entries_are}
use Rattle.resb_examples.proofs.ZonesLemmas.{zone_is, no_zone}
use Rattle.resb_examples.proofs.zones.zone.ZoneDeserialize.deserialize.Goals as goal

pub read_fields-requires-clause-places : goal.read_fields-requires-clause-places
read_fields-requires-clause-places c =
    entries_are (place_of c.args.at) c.in_ok-entries.entries.rest c.in_ok-entries.ensures.read.0

pub returns-in-Some-Some-clause-read : goal.returns-in-Some-Some-clause-read
returns-in-Some-Some-clause-read c =
    let rest = c.in_ok-entries.entries.rest in
    let first = c.in_ok-entries.ensures.read in
    let seen = c.in_ok-fields.ensures.read in
    let fits : SFits w32 c.in-Some-Some.base = search rules in
    let pairs = c.in-Some-Some.is-1 in
    let base = c.in-Some-Some.is-0 ∙ ap Some (sym (to_z-of_z w32 c.in-Some-Some.base fits)) in (
      1 + length rest,
      zone_is (place_of c.args.at) rest first.0 c.in_ok-fields.fields seen.0 _ base pairs,
      omega (arith, first.2, seen.1),
    )

pub returns-in_default-clause-refused : goal.returns-in_default-clause-refused
returns-in_default-clause-refused c =
    let rest = c.in_ok-entries.entries.rest in
    let first = c.in_ok-entries.ensures.read in
    let seen = c.in_ok-fields.ensures.read in
    let none = no_zone (place_of c.args.at) rest first.0 c.in_ok-fields.fields seen.0 in
    elim c.in_default.branch [
      | goal.in_default-via-in-Some+in_default w ↦ (
        omega (arith, first.2, seen.1),
        inr (λ n h fits. none (inr w.in_default.is-1) n h),
      )
      | goal.in_default-via-in_default w ↦ (
        omega (arith, first.2, seen.1),
        inr (λ n h fits. none (inl w.in_default.is-0) n h),
      )
    ]

pub returns-in_default-clause-missing : goal.returns-in_default-clause-missing
returns-in_default-clause-missing c = λ lacks. c.unknown.ensures

use Rattle.std.proofs.Common.{rules, arith, ◌≡◌, ap, sym, ◌∙◌, Some, None}
use Rattle.std.proofs.Common.{option_map, length, drop, true, refl, subst}
use Rattle.std.specs.List.{starts_with}
use Rattle.std.specs.Prelude.{nat_eq}
use Rattle.std.specs.Str.{IsUtf8}
use Rattle.std.specs.String.{string_bytes}
use Rattle.resb_format.specs.Bytes.{units_of}
use Rattle.resb_format.specs.Strings as strings
use Rattle.resb_pool.specs.Pool.{record_units}
use Rattle.resb_lent.proofs.Standing.{record_size, nothing_here, too_long, too_far, other_units}
use Rattle.resb_lent.proofs.Standing.{stands_there}
use Rattle.resb_lent.proofs.records.record_at.Goals as goal
use Rattle.resb_lent.proofs.records.record_at.Goals.{then-len-at-via-then-len-at}
use Rattle.resb_lent.proofs.records.record_at.Goals.{
  then-len-at-via-else-len-at+then-not-stand_at,
}

pub returns-in_default : goal.returns-in_default
returns-in_default c = λ r h.
    let e : None ≡ strings.text_at (units_of c.args.block.now) c.args.at =
    ap (option_map string_bytes) (sym c.in_default.is) ∙ c.in_ok-text.ensures in
    nothing_here (units_of c.args.block.now) r c.args.at e h

pub returns-in_default-2 : goal.returns-in_default-2
returns-in_default-2 c = λ r h.
    let block = units_of c.args.block.now in
    let t = string_bytes c.in-Some.text in
    let e : Some t ≡ strings.text_at block c.args.at =
    ap (option_map string_bytes) (sym c.in-Some.is) ∙ c.in_ok-text.ensures in
    let long = rw c.in_default-2.is at c.in_ok-record.ensures in
    let same : c.deref.result.now ≡ t = search rules in
    too_long block t r c.args.at e (rw (← same) long) h

pub returns-then-len-at : goal.returns-then-len-at
returns-then-len-at c = λ r h.
    let block = units_of c.args.block.now in
    let t = string_bytes c.in-Some.text in
    let at = c.args.at in
    let e : Some t ≡ strings.text_at block at =
    ap (option_map string_bytes) (sym c.in-Some.is) ∙ c.in_ok-text.ensures in
    let same : c.deref.result.now ≡ t = search rules in
    let items : c.in-Some-2.record.items ≡ record_units c.deref.result.now =
    rw c.in-Some-2.is at c.in_ok-record.ensures in
    let is : c.in-Some-2.record.items ≡ record_units t = items ∙ ap record_units same in
    elim c.then-len-at.branch [
      | then-len-at-via-then-len-at w ↦ too_far block t r at e
          (omega (
            arith,
            w.if-len-at.true,
            c.len.ensures,
            c.in-Some-2.record.ok,
            ap length is,
            c.requires.small,
          ))
          h
      | then-len-at-via-else-len-at+then-not-stand_at w ↦
          other_units block t r at e
          (ap (λ u. starts_with nat_eq (drop at u) (record_units t)) (sym c.requires.units)
          ∙ ap (starts_with nat_eq (drop at c.args.units.now))
          (sym (w.deref-else-len-at.ensures.value ∙ is))
          ∙ sym w.if-not-stand_at.ensures)
          h
    ]

pub returns : goal.returns
returns c =
    let block = units_of c.args.block.now in
    let t = string_bytes c.in-Some.text in
    let at = c.args.at in
    let same : c.deref.result.now ≡ t = search rules in
    let items : c.in-Some-2.record.items ≡ record_units c.deref.result.now =
    rw c.in-Some-2.is at c.in_ok-record.ensures in
    let is : c.in-Some-2.record.items ≡ record_units t = items ∙ ap record_units same in
    let begins : starts_with nat_eq (drop at block) (record_units t) ≡ true =
    ap (λ u. starts_with nat_eq (drop at u) (record_units t)) (sym c.requires.units)
    ∙ ap (starts_with nat_eq (drop at c.args.units.now))
    (sym (c.deref-else-len-at.ensures.value ∙ is))
    ∙ sym c.if-not-stand_at.ensures in
    record {
      stands = stands_there block t at (subst IsUtf8 same c.deref.utf8)
          (omega (arith, c.if-len-at.false, c.len.ensures, ap length is, c.requires.small))
          begins;
      place = refl;
      end = omega (arith, c.len-2.ensures, ap length is, record_size t);
    }

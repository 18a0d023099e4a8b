-- Each iteration appends the units of the next character.
use Rattle.std.proofs.Common.{◌≡◌, sym, ◌∙◌, ap, ◌++◌, append_assoc, append-nil}
use Rattle.std.specs.Str.{chars}
use Rattle.std.specs.Str.Iter.{chars_rest}
use Rattle.std.specs.List.{flat_map}
use Rattle.std.specs.Char.Escape.{encode_utf16}
use Rattle.std.proofs.lemmas.Str.{encodes-chars, cons_from_encodes}
use Rattle.std.proofs.Common.{List, ℕ, OnOk, length, refl, subst}
use Rattle.resb_format.proofs.TextUnits.{empty_encoding, units_ascii}
use Rattle.resb_pool.proofs.records.push_units.Goals as goal

pub loop-c-init : goal.loop-c-init
loop-c-init c = (
  chars c.args.text.now,
  encodes-chars c.args.text.now c.utf8.text ∙ sym c.chars-c-items.ensures.rest ∙ ap chars_rest
      (sym c.into_iter-c-iterator.ensures.into_iter_gives),
  refl,
)

pub loop-c-preserved : goal.loop-c-preserved
loop-c-preserved c =
    let i = c.loop-c.invariant in
    let s = cons_from_encodes i.0 _ c.in-Some.c (i.1 ∙ c.in-Some.ensures.steps.0) in
    let more = c.in_ok-push_char.ensures in (
      s.0,
      s.2,
      ap (λ l. l ++ flat_map encode_utf16 s.0) more ∙ append_assoc c.loop-c.units.items
          (encode_utf16 c.in-Some.c) (flat_map encode_utf16 s.0)
          ∙ ap (λ l. c.loop-c.units.items ++ flat_map encode_utf16 l) (sym s.1) ∙ i.2,
    )

pub returns : goal.returns
returns c =
    let i = c.loop-c.invariant in
    let z = empty_encoding i.0 (ap length i.1 ∙ c.in-None.ensures.steps.0.0) in
    sym (append-nil c.loop-c.units.items) ∙ ap (λ l. c.loop-c.units.items ++ flat_map encode_utf16
    l) (sym z) ∙ i.2

pub returns-then-is_ascii : goal.returns-then-is_ascii
returns-then-is_ascii c =
    subst (λ (us : List ℕ). OnOk c.push_bytes.result (c.push_bytes.new.units.items ≡
    c.args.units.now.items ++ us))
    (c.as_bytes.ensures.value ∙ sym (units_ascii c.args.text.now c.if-is_ascii.ensures.cases))
    c.push_bytes.ensures

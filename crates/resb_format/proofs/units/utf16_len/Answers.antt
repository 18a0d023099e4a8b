-- Each iteration counts the units of the next character.
use Rattle.std.proofs.Common.{◌≡◌, sym, ◌∙◌, ap, ◌++◌, length, length-append, arith}
use Rattle.std.specs.Str.{chars}
use Rattle.std.specs.Str.Iter.{chars_rest}
use Rattle.std.specs.List.{flat_map}
use Rattle.std.specs.Char.Escape.{encode_utf16}
use Rattle.std.proofs.lemmas.Str.{encodes-chars, cons_from_encodes}
use Rattle.resb_format.proofs.TextUnits.{empty_encoding, unit_count, units_le, units_ascii}
use Rattle.resb_format.proofs.units.utf16_len.Goals as goal

pub loop-c-init : goal.loop-c-init
loop-c-init c = (
  chars c.args.text.now,
  encodes-chars c.args.text.now c.utf8.text ∙ sym c.chars-c-items.ensures.rest ∙ ap chars_rest
      (sym c.into_iter-c-iterator.ensures.into_iter_gives),
  omega arith,
  omega (
    arith,
    units_le (chars c.args.text.now),
    ap length (encodes-chars c.args.text.now
        c.utf8.text),
  ),
)

pub loop-c-preserved : goal.loop-c-preserved
loop-c-preserved c =
    let i = c.loop-c.invariant in
    let s = cons_from_encodes i.0 _ c.in-Some.c (i.1 ∙ c.in-Some.ensures.steps.0) in
    let e : length (flat_map encode_utf16 i.0) ≡ length (encode_utf16 c.in-Some.c ++ flat_map
    encode_utf16 s.0) = ap (λ l. length (flat_map encode_utf16 l)) s.1 in
    let n : length (encode_utf16 c.in-Some.c) ≡ c.len_utf16-count.result = unit_count c.in-Some.c
    c.len_utf16-count.result c.len_utf16-count.ensures.bmp
    c.len_utf16-count.ensures.surrogate_pair in (
      s.0,
      s.2,
      omega (
        arith,
        i.2,
        e,
        n,
        length-append (encode_utf16 c.in-Some.c)
            (flat_map encode_utf16 s.0),
      ),
      i.3,
    )

pub returns-clause-count : goal.returns-clause-count
returns-clause-count c =
    let i = c.loop-c.invariant in
    let z = empty_encoding i.0 (ap length i.1 ∙ c.in-None.ensures.steps.0.0) in
    let e : length (flat_map encode_utf16 i.0) ≡ 0 = ap (λ l. length (flat_map encode_utf16 l)) z in
    omega (arith, i.2, e)

pub returns-clause-small : goal.returns-clause-small
returns-clause-small c = let i = c.loop-c.invariant in omega (arith, i.2, i.3)

pub returns-then-is_ascii-clause-count : goal.returns-then-is_ascii-clause-count
returns-then-is_ascii-clause-count c =
    ap length (sym (units_ascii c.args.text.now c.if-is_ascii.ensures.cases))

-- Each iteration takes the units of the next character from what is left.
use Rattle.std.proofs.Common.{◌≡◌, ◌++◌, sym, ◌∙◌, ap, length, length-append, arith}
use Rattle.std.specs.Str.{chars}
use Rattle.std.specs.Str.Iter.{chars_rest}
use Rattle.std.specs.List.{flat_map}
use Rattle.std.specs.Char.Escape.{encode_utf16}
use Rattle.std.proofs.lemmas.Bool.{le-leb, lt-leb}
use Rattle.std.proofs.lemmas.Str.{encodes-chars, cons_from_encodes}
use Rattle.resb_format.specs.Units.{units}
use Rattle.resb_format.proofs.TextUnits.{empty_encoding, unit_count, units_within}
use Rattle.resb_format.proofs.units.has_at_most.Goals as goal

pub loop-c-init : goal.loop-c-init
loop-c-init c = (
  chars c.args.text.now,
  encodes-chars c.args.text.now c.utf8.text ∙ sym c.chars-c-items.ensures.rest
      ∙ ap chars_rest (sym c.into_iter-c-iterator.ensures.into_iter_gives),
  omega arith,
)

pub loop-c-preserved : goal.loop-c-preserved
loop-c-preserved c =
    let i = c.loop-c.invariant in
    let s = cons_from_encodes i.0 _ c.in-Some.c (i.1 ∙ c.in-Some.ensures.steps.0) in
    let e : length (flat_map encode_utf16 i.0)
    ≡ length (encode_utf16 c.in-Some.c ++ flat_map encode_utf16 s.0) =
    ap (λ l. length (flat_map encode_utf16 l)) s.1 in
    let n : length (encode_utf16 c.in-Some.c) ≡ c.len_utf16-taken.result =
    unit_count c.in-Some.c c.len_utf16-taken.result c.len_utf16-taken.ensures.bmp
    c.len_utf16-taken.ensures.surrogate_pair in (
      s.0,
      s.2,
      omega (
        arith,
        i.2,
        e,
        n,
        c.if-taken-left.false,
        length-append (encode_utf16 c.in-Some.c) (flat_map encode_utf16 s.0),
      ),
    )

pub returns-then-text-most : goal.returns-then-text-most
returns-then-text-most c =
    sym (le-leb (length (units c.args.text.now)) c.args.most (omega (
      arith,
      units_within c.args.text.now c.utf8.text,
      c.if-text-most.true,
    )))

pub returns-then-taken-left : goal.returns-then-taken-left
returns-then-taken-left c =
    let i = c.loop-c.invariant in
    let s = cons_from_encodes i.0 _ c.in-Some.c (i.1 ∙ c.in-Some.ensures.steps.0) in
    let e : length (flat_map encode_utf16 i.0)
    ≡ length (encode_utf16 c.in-Some.c ++ flat_map encode_utf16 s.0) =
    ap (λ l. length (flat_map encode_utf16 l)) s.1 in
    let n : length (encode_utf16 c.in-Some.c) ≡ c.len_utf16-taken.result =
    unit_count c.in-Some.c c.len_utf16-taken.result c.len_utf16-taken.ensures.bmp
    c.len_utf16-taken.ensures.surrogate_pair in
    sym (lt-leb (length (units c.args.text.now)) c.args.most (omega (
      arith,
      i.2,
      e,
      n,
      c.if-taken-left.true,
      length-append (encode_utf16 c.in-Some.c) (flat_map encode_utf16 s.0),
    )))

pub returns : goal.returns
returns c =
    let i = c.loop-c.invariant in
    let z = empty_encoding i.0 (ap length i.1 ∙ c.in-None.ensures.steps.0.0) in
    let e : length (flat_map encode_utf16 i.0) ≡ 0 = ap (λ l. length (flat_map encode_utf16 l)) z in
    sym (le-leb (length (units c.args.text.now)) c.args.most (omega (arith, i.2, e)))

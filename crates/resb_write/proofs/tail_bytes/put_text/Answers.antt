-- Each iteration appends the units of the next character.
use Rattle.std.proofs.Common.{ℕ, List, length, refl, sym, ◌∙◌, ap, ◌++◌, append_assoc}
use Rattle.std.proofs.Common.{append-nil}
use Rattle.std.specs.Str.{chars}
use Rattle.std.specs.Str.Iter.{chars_rest}
use Rattle.std.specs.List.{flat_map}
use Rattle.std.specs.Int.{to_le_bytes, w16}
use Rattle.std.specs.Char.Escape.{encode_utf16}
use Rattle.std.proofs.lemmas.List.Concat.{flat_map-append}
use Rattle.std.proofs.lemmas.Str.{encodes-chars, cons_from_encodes}
use Rattle.resb_format.specs.Bytes.{units_as_bytes}
use Rattle.resb_format.proofs.TextUnits.{empty_encoding}
use Rattle.resb_write.proofs.tail_bytes.put_text.Goals as goal

pub loop-c-init : goal.loop-c-init
loop-c-init c = (
  chars c.args.text.now,
  encodes-chars c.args.text.now c.utf8.text ∙ sym c.chars-c-items.ensures.rest ∙ ap chars_rest
      (sym c.into_iter-c-iterator.ensures.into_iter_gives),
  refl,
)

pub loop-c-preserved : goal.loop-c-preserved
loop-c-preserved c =
    let i = c.loop-c.invariant in
    let bs = c.loop-c.tail.items in
    let us : List ℕ = encode_utf16 c.in-Some.c in
    let s = cons_from_encodes i.0 _ c.in-Some.c (i.1 ∙ c.in-Some.ensures.steps.0) in
    let vs : List ℕ = flat_map encode_utf16 s.0 in
    let more = c.in_ok-put_char.ensures in (
      s.0,
      s.2,
      ap (λ l. l ++ units_as_bytes vs) more ∙ append_assoc bs (units_as_bytes us)
          (units_as_bytes vs)
          ∙ ap (λ l. bs ++ l) (sym (flat_map-append (to_le_bytes w16) us vs))
          ∙ ap (λ l. bs ++ units_as_bytes (flat_map encode_utf16 l)) (sym s.1) ∙ i.2,
    )

pub returns : goal.returns
returns c =
    let i = c.loop-c.invariant in
    let z = empty_encoding i.0 (ap length i.1 ∙ c.in-None.ensures.steps.0.0) in
    sym (append-nil c.loop-c.tail.items)
    ∙ ap (λ l. c.loop-c.tail.items ++ units_as_bytes (flat_map encode_utf16 l)) (sym z) ∙ i.2

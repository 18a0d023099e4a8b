-- Each turn appends what is shown of the next character.
use Rattle.std.proofs.Common.{◌∙◌, ◌++◌, List, ℕ, length, map, refl, sym, ap}
use Rattle.std.proofs.Common.{append_assoc, append-nil, encode_utf8, encode_utf8_all}
use Rattle.std.specs.String.{string_bytes}
use Rattle.std.specs.Str.{chars}
use Rattle.std.specs.Str.Iter.{chars_rest}
use Rattle.std.proofs.lemmas.Str.{encodes-chars, cons_from_encodes}
use Rattle.resb_format.proofs.TextUnits.{empty_encoding}
use Rattle.resb_diagnostics.specs.Excerpt.{shown_character}
use Rattle.resb_diagnostics.proofs.excerpt.push_text.Goals as goal

-- what is shown of these characters
abbrev shown : List ℕ → List ℕ
shown cs = encode_utf8_all (map shown_character cs)

pub loop-c-init : goal.loop-c-init
loop-c-init c = (
  chars c.args.text.now,
  encodes-chars c.args.text.now c.utf8.text ∙ sym c.chars-c-items.ensures.rest ∙ ap chars_rest
      (sym c.into_iter-c-iterator.ensures.into_iter_gives),
  refl,
)

pub loop-c-preserved : goal.loop-c-preserved
loop-c-preserved c =
    let i = c.loop-c.invariant in
    let s = cons_from_encodes i.0 _ c.in-Some.c (i.1 ∙ c.in-Some.ensures.steps.0) in
    let old = string_bytes c.loop-c.out in (
      s.0,
      s.2,
      ap (λ l. l ++ shown s.0) c.in_ok-push.ensures.bytes
          ∙ append_assoc old (encode_utf8 c.shown_character.result) (shown s.0)
          ∙ ap (λ x. old ++ (encode_utf8 x ++ shown s.0)) c.shown_character.ensures
          ∙ ap (λ l. old ++ shown l) (sym s.1) ∙ i.2,
    )

pub returns : goal.returns
returns c =
    let i = c.loop-c.invariant in
    let z = empty_encoding i.0 (ap length i.1 ∙ c.in-None.ensures.steps.0.0) in
    let old = string_bytes c.loop-c.out in
    sym (append-nil old) ∙ ap (λ l. old ++ shown l) (sym z) ∙ i.2

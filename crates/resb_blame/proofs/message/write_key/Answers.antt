-- Each turn writes the next character.
use Rattle.std.proofs.Common.{rules, ◌≡◌, ◌++◌, ◌∙◌, ℕ, List, [], length, refl, sym, ap, subst}
use Rattle.std.proofs.Common.{append_assoc, append-nil}
use Rattle.std.proofs.Output.{has_written_append, writes_in_calls_nil}
use Rattle.std.specs.Fmt.{HasWritten}
use Rattle.std.specs.List.{flat_map}
use Rattle.std.specs.Str.{chars}
use Rattle.std.specs.Str.Iter.{chars_rest}
use Rattle.std.proofs.lemmas.Str.{encodes-chars, cons_from_encodes}
use Rattle.resb_format.proofs.TextUnits.{empty_encoding}
use Rattle.resb_blame.specs.Message.{character_text}
use Rattle.resb_blame.proofs.message.write_key.Goals as goal

pub loop-c-init : goal.loop-c-init
loop-c-init g c = (
  chars c.args.key.now,
  encodes-chars c.args.key.now c.utf8.key ∙ sym c.chars-c-items.ensures.rest ∙ ap chars_rest
      (sym c.into_iter-c-iterator.ensures.into_iter_gives),
  λ plain. ([], record { wrote = writes_in_calls_nil _ _; plain = plain }, refl),
)

pub loop-c-preserved : goal.loop-c-preserved
loop-c-preserved g c =
    let i = c.loop-c.invariant in
    let one = c.in-Some.c in
    let s = cons_from_encodes i.0 _ one (i.1 ∙ c.in-Some.ensures.steps.0) in (
      s.0,
      s.2,
      λ plain. let so_far = i.2 plain in (
        so_far.0 ++ character_text one,
        has_written_append _ _ _ _ _ _ so_far.1
            (c.write_character.ensures so_far.1.plain (search rules)),
        append_assoc so_far.0 (character_text one) (flat_map character_text s.0)
            ∙ ap (λ cs. so_far.0 ++ flat_map character_text cs) (sym s.1) ∙ so_far.2,
      ),
    )

pub returns : goal.returns
returns g c = λ plain ok.
    let i = c.loop-c.invariant in
    let none = empty_encoding i.0 (ap length i.1 ∙ c.in-None.ensures.steps.0.0) in
    let so_far = i.2 plain in
    subst (λ bs. HasWritten g.W.Write.write_str_gives c.args.f.now bs c.loop-c.f)
    (sym (append-nil so_far.0) ∙ ap (λ cs. so_far.0 ++ flat_map character_text cs) (sym none)
    ∙ so_far.2) so_far.1

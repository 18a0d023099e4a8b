use Rattle.std.proofs.Common.{rules, ◌≡◌, ◌++◌, sym, ap, ◌∙◌, Ok}
use Rattle.std.proofs.lemmas.List.{append-nil}
use Rattle.std.specs.String.{string_bytes}
use Rattle.serde_json.specs.Written.{compact_text}
use Rattle.resb_json.specs.Json.{json_of}
use Rattle.resb_json.proofs.write.json_text_within.Goals as goal

pub returns : goal.returns
returns g c =
    let bytes = c.push_block.new.block.items in
    let whole : bytes ≡ compact_text (json_of (g.S.Shown.tree c.args.shown)) =
    sym (append-nil bytes)
    ∙ (ap (λ l. bytes ++ l) (sym (c.in_ok-push_block.ensures.end (ap Ok c.if-branch.false)))
    ∙ (c.in_ok-push_block.ensures.text ∙ c.loop-bytes.invariant)) in
    let same : string_bytes c.in_ok-text-2.text ≡ bytes = search rules in
    (same ∙ whole, search rules)

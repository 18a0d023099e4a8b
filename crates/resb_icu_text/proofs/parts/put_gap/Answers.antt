use Rattle.std.proofs.Common.{◌∷◌, [], ◌++◌, sym, ◌∙◌, ap, append-nil, lit≤}
use Rattle.std.specs.Prelude.{if◌then◌else◌}
use Rattle.std.proofs.lemmas.Str.{encode_ascii}
use Rattle.std.specs.String.{string_bytes}
use Rattle.resb_grammar.specs.Ascii as ascii
use Rattle.resb_icu_text.proofs.parts.put_gap.Goals as goal

pub returns-then-are_pieces : goal.returns-then-are_pieces
returns-then-are_pieces c =
    sym (ap (λ b. string_bytes c.args.value.now ++ (if b then [] else ascii.space ∷ []))
    (sym c.are_pieces.ensures ∙ c.if-are_pieces.true) ∙ append-nil _)

use Rattle.std.proofs.Common.{◌≡◌, List, ℕ, Some, None, Option, Bor, true, sym, ◌∙◌}
use Rattle.std.specs.Option.{IfSome, is_some}
use Rattle.resb_format.specs.Bytes.{units_of}
use Rattle.resb_format.specs.Strings.{text_at}
use Rattle.resb_walk.specs.Inner.Members.{text_of_bytes}
use Rattle.resb_walk.proofs.standing.is_plain_text.Goals as goal

found : (us : List ℕ) (u : ℕ) (o : Option (Bor (List ℕ)))
    → IfSome o (λ v. text_at us u ≡ Some (text_of_bytes v.now)) → is_some o ≡ true
    → (text : List ℕ) × (text_at us u ≡ Some text)
found us u None e t = absurd cc
found us u (Some v) e t = (text_of_bytes v.now, e)

pub returns : goal.returns
returns c h = found (units_of c.args.block.now) c.args.unit c.plain_text.result
    c.plain_text.ensures.text
    (sym c.is_some.ensures ∙ h)

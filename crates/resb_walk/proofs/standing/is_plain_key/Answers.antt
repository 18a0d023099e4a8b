use Rattle.std.proofs.Common.{◌≡◌, List, ℕ, Some, None, Option, Bor, true, sym, ◌∙◌}
use Rattle.std.specs.Option.{IfSome, is_some}
use Rattle.resb_format.specs.Strings.{key_at}
use Rattle.resb_walk.proofs.standing.is_plain_key.Goals as goal

found : (keys : List ℕ) (at : ℕ) (o : Option (Bor (List ℕ)))
    → IfSome o (λ s. key_at keys at ≡ Some s.now) → is_some o ≡ true
    → (key : List ℕ) × (key_at keys at ≡ Some key)
found keys at None e t = absurd cc
found keys at (Some s) e t = (s.now, e)

pub returns : goal.returns
returns c h = found c.args.keys.now c.args.at c.plain_key.result c.plain_key.ensures
    (sym c.is_some.ensures ∙ h)

use Rattle.std.proofs.Common.{◌≡◌, ap, sym, ◌∙◌, Some, length}
use Rattle.resb_walk.proofs.known.KnownKeys.key_len.Goals as goal

pub returns : goal.returns
returns c k e =
    let both : Some k ≡ Some c.in_ok-key.key.now = sym e ∙ c.in_ok-key.ensures in
    let same : k ≡ c.in_ok-key.key.now = cc in
    ap length same

use Rattle.std.proofs.Common.{ap, arith, length, map}
use Rattle.resb_icu_text.proofs.ReadingLemmas.{pushed, with_key_length}
use Rattle.resb_icu_text.proofs.open.OpenGroups.open.Goals as goal

pub returns-clause-groups : goal.returns-clause-groups
returns-clause-groups g c = λ tree. pushed tree _ _ _ c.in_ok-push.ensures.items

pub returns-clause-count : goal.returns-clause-count
returns-clause-count g c =
    let same = ap length c.in_ok-list_key.ensures in
    omega (arith, with_key_length (map (λ k. k.now) c.args.self.now.keys.items) c.args.waiting)

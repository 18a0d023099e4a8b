use Rattle.std.proofs.Common.{ap}
use Rattle.resb_text.proofs.StepsLemmas.{goes_on}
use Rattle.resb_text.proofs.steps.token.Goals as goal

pub returns-in-44-clause-reads : goal.returns-in-44-clause-reads
returns-in-44-clause-reads g c =
    goes_on c.requires.among (ap (λ n. (c.args.here.0, n)) c.in-44.is) _ _ c.comma.ensures.reads

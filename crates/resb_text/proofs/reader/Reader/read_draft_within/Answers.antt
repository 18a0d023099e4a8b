use Rattle.std.proofs.Common.{ap, ◌∙◌}
use Rattle.resb_text.specs.declared.quota.Quota.{Quota}
use Rattle.resb_text.proofs.QuotaLemmas.{larger}
use Rattle.resb_text.proofs.reader.Reader.read_draft_within.Goals as goal

pub returns-in-Err-clause-none : goal.returns-in-Err-clause-none
returns-in-Err-clause-none c =
    larger c.draft_limited.ensures.quota c.if-quota.true
    (ap (λ (q : Quota). q.limit) c.new-quota.ensures ∙ c.of_drafts.ensures)

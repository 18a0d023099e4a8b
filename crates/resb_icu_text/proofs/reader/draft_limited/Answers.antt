use Rattle.resb_icu_text.proofs.MakingLemmas.{anything_said}
use Rattle.resb_icu_text.specs.Inner.Kept.{anything}
use Rattle.resb_icu_text.proofs.reader.draft_limited.Goals as goal

pub returns : goal.returns
returns c =
    let whole = c.in_ok-header.ensures.reads in
    record { reads = (whole.0, whole.1 anything (anything_said c.args.input.now), whole.2) }

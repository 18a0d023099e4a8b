use Rattle.resb_text.proofs.HeaderReading.{no_bundle_if_fails}
use Rattle.resb_text.proofs.reader.Reader.read_draft.Goals as goal

pub returns-clause-no_bundle : goal.returns-clause-no_bundle
returns-clause-no_bundle c = no_bundle_if_fails _ _ c.draft_limited.ensures.err

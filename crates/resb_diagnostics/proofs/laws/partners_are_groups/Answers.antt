use Rattle.resb_diagnostics.proofs.GroupPartners.{plain_partners, icu_partners}
use Rattle.resb_diagnostics.proofs.laws.partners_are_groups.Goals as goal

pub returns : goal.returns
returns c = record { plain = plain_partners; icu = icu_partners }

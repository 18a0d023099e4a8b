use Rattle.resb_diagnostics.specs.Braces.{plain_form, icu_form}
use Rattle.resb_diagnostics.proofs.PartnersLemmas.{one_partner}
use Rattle.resb_diagnostics.proofs.laws.one_partner.Goals as goal

pub returns : goal.returns
returns c = record { plain = one_partner plain_form; icu = one_partner icu_form }

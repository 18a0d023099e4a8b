use Rattle.resb_diagnostics.specs.Braces.{plain_form, icu_form}
use Rattle.resb_diagnostics.proofs.PartnersLemmas.{one_innermost}
use Rattle.resb_diagnostics.proofs.laws.one_innermost.Goals as goal

pub returns : goal.returns
returns c = record { plain = one_innermost plain_form; icu = one_innermost icu_form }

use Rattle.resb_diagnostics.specs.Braces.{plain_form, icu_form}
use Rattle.resb_diagnostics.proofs.PartnersLemmas.{innermost_is}
use Rattle.resb_diagnostics.proofs.laws.finds_innermost.Goals as goal

pub returns : goal.returns
returns c = record { plain = innermost_is plain_form; icu = innermost_is icu_form }

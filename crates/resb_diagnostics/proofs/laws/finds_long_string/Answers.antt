use Rattle.resb_diagnostics.specs.Braces.{plain_form, icu_form}
use Rattle.resb_diagnostics.proofs.LongLemmas.{long_is}
use Rattle.resb_diagnostics.proofs.laws.finds_long_string.Goals as goal

pub returns : goal.returns
returns c = record { plain = long_is plain_form; icu = long_is icu_form }

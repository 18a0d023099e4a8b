use Rattle.resb_diagnostics.specs.Braces.{plain_form, icu_form}
use Rattle.resb_diagnostics.proofs.OutdentLemmas.{outdent_first}
use Rattle.resb_diagnostics.proofs.laws.finds_outdent.Goals as goal

pub returns : goal.returns
returns c = record {
  plain = λ text n le. outdent_first plain_form text n;
  icu = λ text n le. outdent_first icu_form text n;
}

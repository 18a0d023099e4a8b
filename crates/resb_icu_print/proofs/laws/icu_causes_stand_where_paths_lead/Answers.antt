use Rattle.std.proofs.Common.{ap}
use Rattle.std.specs.Prelude.{option_map}
use Rattle.resb_print.proofs.Leading.{first_by_path, none_without_cause}
use Rattle.resb_icu_print.specs.Causes.{icu_tests}
use Rattle.resb_icu_print.proofs.laws.icu_causes_stand_where_paths_lead.Goals as goal

pub returns : goal.returns
returns c = record {
  first = λ name t path x maps h. first_by_path icu_tests name t path x maps
      (ap (option_map (λ found. found.0)) h) (ap (option_map (λ found. found.1)) h);
  none = λ name t path x maps e. none_without_cause icu_tests name t path x maps e;
}

use Rattle.std.proofs.Common.{arith, refl, ap, false, ◌∙◌}
use Rattle.std.proofs.lemmas.Grind.{common_steps}
use Rattle.std.specs.Prelude.{slice_index_or}
use Rattle.resb_text.proofs.DiscoveredLemmas.{left_of-opened, flags_opened}
use Rattle.resb_text.proofs.discovered.Keys.open.Goals as goal

pub returns : goal.returns
returns c =
    let flags = c.args.self.now.is_dropped.items in
    let pushed = c.in_ok-push.ensures.items in
    record {
      number = grind (arith, common_steps);
      stays = left_of-opened flags _ pushed _;
      groups = grind (arith, common_steps);
      flags = λ g. ap (λ ds. slice_index_or ds g false) pushed ∙ flags_opened flags g;
      fresh = grind (arith, common_steps);
      candidates = refl;
      listed = refl;
    }

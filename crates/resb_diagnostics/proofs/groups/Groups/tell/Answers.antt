-- What the code asks of the innermost group is what the definitions ask.
use Rattle.std.proofs.Common.{arith}
use Rattle.std.proofs.lemmas.Grind.{common_steps}
use Rattle.std.proofs.lemmas.Result.{on_ok_weaker}
use Rattle.resb_diagnostics.proofs.KeysLemmas.{comma_by_code}
use Rattle.resb_diagnostics.proofs.groups.Groups.tell.Goals as goal

pub returns-in-Comma : goal.returns-in-Comma
returns-in-Comma c =
    on_ok_weaker c.tell_if.result (λ told g shows.
    grind (arith, common_steps, told, comma_by_code c.args.self.now g shows c.in-Comma.at))
    c.tell_if.ensures

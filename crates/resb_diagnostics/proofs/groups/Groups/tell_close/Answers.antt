-- Of the three things that a closed group may be told of, at most one is due.
use Rattle.std.proofs.Common.{arith}
use Rattle.std.proofs.lemmas.Grind.{common_steps}
use Rattle.std.proofs.lemmas.Result.{on_ok_weaker}
use Rattle.resb_diagnostics.proofs.KeysLemmas.{keys_by_code, lone_by_code, empty_by_code}
use Rattle.resb_diagnostics.proofs.groups.Groups.tell_close.Goals as goal

pub returns-then-not-is_paired : goal.returns-then-not-is_paired
returns-then-not-is_paired c =
    on_ok_weaker c.tell_lone.result (λ told g shows.
    grind (
      arith,
      common_steps,
      told,
      keys_by_code c.args.self.now g shows,
      lone_by_code c.args.self.now g shows,
      empty_by_code c.args.self.now g shows,
    ))
    c.tell_lone.ensures

pub returns-then-is_empty : goal.returns-then-is_empty
returns-then-is_empty c =
    on_ok_weaker c.tell_if.result (λ told g shows.
    grind (
      arith,
      common_steps,
      told,
      keys_by_code c.args.self.now g shows,
      lone_by_code c.args.self.now g shows,
      empty_by_code c.args.self.now g shows,
    ))
    c.tell_if.ensures

-- What may be a table is told of by its keys, other groups not at all.
use Rattle.std.proofs.Common.{arith}
use Rattle.std.proofs.lemmas.Grind.{common_steps}
use Rattle.resb_diagnostics.proofs.KeysLemmas.{keys_by_code}
use Rattle.resb_diagnostics.proofs.groups.Groups.tell_keys.Goals as goal

pub returns-in_ok-tell_keys : goal.returns-in_ok-tell_keys
returns-in_ok-tell_keys c = λ g shows.
    grind (arith, common_steps, keys_by_code c.args.self.now g shows)

pub returns-else-may_be_table : goal.returns-else-may_be_table
returns-else-may_be_table c = λ g shows.
    grind (arith, common_steps, keys_by_code c.args.self.now g shows)

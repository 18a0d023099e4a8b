use Rattle.std.proofs.Common.{sym}
use Rattle.resb_zoneinfo.proofs.data.ZoneInfo.rule_named.Goals as goal

pub returns-in-Ok-clause-said : goal.returns-in-Ok-clause-said
returns-in-Ok-clause-said c =
    record {
      numbers = c.in-Some.numbers;
      found = sym c.in-Some.ensures;
      says = c.in-Ok.ensures.1;
    }

pub returns-in-Err-clause-refused : goal.returns-in-Err-clause-refused
returns-in-Err-clause-refused c =
    record {
      numbers = c.in-Some.numbers;
      found = sym c.in-Some.ensures;
      fault = c.in-Err.ensures;
    }

-- It is nothing to the groups where a `}` stands.
use Rattle.resb_diagnostics.proofs.groups.Groups.pass.Goals as goal

pub returns-in-Close : goal.returns-in-Close
returns-in-Close c = λ g shows. rw c.in-Close.is (c.close.ensures c.in-Close.field-0 g shows)

-- Each record goes to a text of its own in the layout that is at least as large.
use Rattle.resb_pool.proofs.Least.{least}
use Rattle.resb_pool.proofs.laws.records_cost_least.Goals as goal

pub returns : goal.returns
returns c = least

use Rattle.resb_c.proofs.SeenLemmas.{table_holds}
use Rattle.resb_c.proofs.resb_kind_of.Goals as goal

pub returns-clause-entries : goal.returns-clause-entries
returns-clause-entries c = λ es shows.
    table_holds c.args.opened.now c.args.resource es shows

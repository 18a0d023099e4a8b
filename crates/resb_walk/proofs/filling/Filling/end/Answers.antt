use Rattle.resb_walk.proofs.Made.{map_made}
use Rattle.resb_walk.proofs.filling.Filling.end.Goals as goal

pub returns-in_ok-table-in-List : goal.returns-in_ok-table-in-List
returns-in_ok-table-in-List c = λ es h.
    map_made c.in-List.entries.items c.in_ok-table-in-List.table es
    c.in_ok-table-in-List.ensures
    (rw c.in-List.is at h)

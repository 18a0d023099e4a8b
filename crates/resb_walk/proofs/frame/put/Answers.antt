use Rattle.resb_walk.proofs.Waits.{list_puts, table_puts}
use Rattle.resb_walk.proofs.frame.put.Goals as goal

pub returns-in_ok-add-in-List : goal.returns-in_ok-add-in-List
returns-in_ok-add-in-List g c = λ p w n k x t h d i.
    let o = rw c.in-List.is at h in
    list_puts g.M.Make.lists g.M.Make.tables p c.in-List.rest c.in-List.made
    c.add.new.list w n k x t o d (λ ts m. c.in_ok-add-in-List.ensures ts t m i)

pub returns-in_ok-put-in-Table : goal.returns-in_ok-put-in-Table
returns-in_ok-put-in-Table g c = λ p w n k x t h d i.
    let o = rw c.in-Table.is at h in
    table_puts g.M.Make.lists g.M.Make.tables p c.in-Table.rest c.in-Table.made
    c.put.new.table c.in-Table.key.now w n k x t o d
    (λ es m. c.in_ok-put-in-Table.ensures es t m i)

use Rattle.resb_walk.proofs.Made.{put_made, entry_made}
use Rattle.resb_walk.proofs.filling.Filling.put.Goals as goal
use Rattle.std.proofs.lemmas.Result.{on_ok_weaker}

pub returns-in-Map : goal.returns-in-Map
returns-in-Map c =
    on_ok_weaker c.put_entry.result
    (λ e es t h i. rw e (put_made c.in-Map.table.entries es c.args.key.now
    c.args.item t (rw c.in-Map.is at h) i)) c.put_entry.ensures

pub returns-in-List : goal.returns-in-List
returns-in-List c =
    on_ok_weaker c.push_entry.result (λ e es t h i. rw e (entry_made c.in-List.entries.items es
    c.args.key.now c.args.item t (rw c.in-List.is at h) i)) c.push_entry.ensures

use Rattle.std.proofs.Common.{◌≡◌, nat_cmp}
use Rattle.std.specs.BTreeMap.{insert_entry}
use Rattle.std.specs.Cmp.Lexicographic.{slice_cmp}
use Rattle.resb_walk.proofs.filling.put_entry.Goals as goal

pub returns : goal.returns
returns c =
    let put : c.insert.new.self.entries
    ≡ insert_entry (slice_cmp nat_cmp) c.args.table.now.entries c.from.result c.args.item =
    c.in_ok-insert.ensures.entries in
    rw c.from.ensures at put

use Rattle.std.proofs.Common.{refl}
use Rattle.resb_filter.specs.Inner.Entries.{AreEntries}
use Rattle.resb_filter.proofs.OpenLemmas.{opened}
use Rattle.resb_filter.proofs.open_tables.open_table.Goals as goal

pub returns : goal.returns
returns c =
    let d = c.args.draft.now in
    let n = c.args.number in
    let are : AreEntries d n c.in-Some.entries.items = rw c.in-Some.is at c.in_ok-entries.ensures in
    opened d n (record {
      rules = c.args.rules;
      entries = c.in-Some.entries;
      done = 0;
      left = c.new-left.result;
    }) are refl c.new-left.ensures.items

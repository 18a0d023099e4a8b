-- What was written, and what is left, are what was there and what was left.
use Rattle.std.proofs.Common.{◌≡◌, ◌++◌, ◌≤◌}
use Rattle.resb_json.specs.Inner.Jobs.{jobs_in, texts_of, turns_of}
use Rattle.resb_json.proofs.text.JsonTextMembersEntriesBlocks.push_block.Given as goal

abbrev pub invariant-loop-task : goal.invariant-loop-task
invariant-loop-task g l =
    let s = g.S.Shown in
    let now = jobs_in s.tree s.members s.entries l.self.pending.items in
    let first = jobs_in s.tree s.members s.entries l.fn.self.pending.items in
    record {
      text : l.block.items ++ texts_of now ≡ l.fn.block.items ++ texts_of first;
      fewer : turns_of now ≤ turns_of first;
    }

abbrev pub decreases-loop-task : goal.decreases-loop-task
decreases-loop-task g l =
    let s = g.S.Shown in turns_of (jobs_in s.tree s.members s.entries l.self.pending.items)

-- What was made, and what is left, are what was left at the start.
use Rattle.std.proofs.Common.{◌≡◌, ◌++◌, [], ◌≤◌}
use Rattle.std.specs.String.{string_bytes}
use Rattle.resb_lines.specs.Inner.Jobs.{jobs_in, jobs_on, turns_of}
use Rattle.resb_lines.proofs.text.LinesTextMembersEntriesBlocks.push_block.Given as goal

abbrev pub invariant-loop-task : goal.invariant-loop-task
invariant-loop-task g l =
    let f = g.F.Form.spelling in
    let s = g.S.Shown in
    let now = jobs_in s.tree s.members s.entries l.self.pending.items in
    let first = jobs_in s.tree s.members s.entries l.fn.self.pending.items in
    record {
      text : string_bytes l.self.line ++ jobs_on f now [] ≡ jobs_on f first [];
      block : l.block.items ≡ l.fn.block.items;
      fewer : turns_of now ≤ turns_of first;
    }

abbrev pub decreases-loop-task : goal.decreases-loop-task
decreases-loop-task g l =
    let s = g.S.Shown in turns_of (jobs_in s.tree s.members s.entries l.self.pending.items)

-- What was made, and what is left, are the text, of which no more was made than the limit.
use Rattle.std.proofs.Common.{◌≡◌, ◌++◌, [], ◌≤◌, length}
use Rattle.std.specs.String.{string_bytes}
use Rattle.resb_lines.specs.Inner.Jobs.{jobs_in, jobs_on, turns_of}
use Rattle.resb_lines.proofs.text.LinesText+F+S+S+Members+S+Entries.into_text.Given as goal

abbrev pub invariant-loop-task : goal.invariant-loop-task
invariant-loop-task g l =
    let f = g.F.Form.spelling in
    let s = g.S.Shown in
    let now = jobs_in s.tree s.members s.entries l.self.pending.items in
    let first = jobs_in s.tree s.members s.entries l.fn.self.pending.items in
    record {
      text : string_bytes l.self.line ++ jobs_on f now [] ≡ jobs_on f first [];
      within : length (string_bytes l.self.line) ≤ l.fn.limit;
    }

abbrev pub decreases-loop-task : goal.decreases-loop-task
decreases-loop-task g l =
    let s = g.S.Shown in turns_of (jobs_in s.tree s.members s.entries l.self.pending.items)

-- A task is taken and done: what is left, and what was made, are together the same as before.
use Rattle.std.proofs.Common.{rules, ◌≡◌, ◌++◌, ◌∷◌, [], arith, ap, ◌∙◌}
use Rattle.std.specs.String.{string_bytes}
use Rattle.resb_lines.specs.Inner.Jobs.{jobs_in, job_of, jobs_on}
use Rattle.resb_lines.proofs.Jobs.{put_one, block_ends, text_grows, turns_fall}
use Rattle.resb_lines.proofs.text.LinesTextMembersEntriesBlocks.push_block.Goals as goal

pub returns-then-len-ge-BLOCK_LEN-clause-text : goal.returns-then-len-ge-BLOCK_LEN-clause-text
returns-then-len-ge-BLOCK_LEN-clause-text g c =
    let f = g.F.Form.spelling in
    let s = g.S.Shown in
    let first = jobs_in s.tree s.members s.entries c.args.self.now.pending.items in
    let last = jobs_in s.tree s.members s.entries c.loop-task.self.pending.items in
    let left = jobs_in s.tree s.members s.entries c.pop.new.self.items in
    let rest = jobs_in s.tree s.members s.entries c.step.new.self.pending.items in
    let job = job_of s.tree s.members s.entries c.in-Some.task in
    let taken : last ≡ left ++ job ∷ [] =
    put_one s.tree s.members s.entries c.pop.new.self.items c.loop-task.self.pending.items
    c.in-Some.task c.in-Some.ensures.items in
    let grown : c.extend_from_slice.new.self.items
    ≡ c.loop-task.block.items ++ string_bytes c.step.new.self.line = search rules in
    block_ends c.args.block.now.items c.extend_from_slice.new.self.items
    (string_bytes c.step.new.self.line) (jobs_on f rest []) (jobs_on f first [])
    (grown ∙ ap (λ l. l ++ string_bytes c.step.new.self.line) c.loop-task.invariant.block)
    (text_grows f c.loop-task.self.line c.step.new.self.line first last left rest job taken
    c.loop-task.invariant.text c.in_ok-step.ensures)

pub returns-then-len-ge-BLOCK_LEN-clause-fewer : goal.returns-then-len-ge-BLOCK_LEN-clause-fewer
returns-then-len-ge-BLOCK_LEN-clause-fewer g c =
    let f = g.F.Form.spelling in
    let s = g.S.Shown in
    let first = jobs_in s.tree s.members s.entries c.args.self.now.pending.items in
    let last = jobs_in s.tree s.members s.entries c.loop-task.self.pending.items in
    let left = jobs_in s.tree s.members s.entries c.pop.new.self.items in
    let rest = jobs_in s.tree s.members s.entries c.step.new.self.pending.items in
    let job = job_of s.tree s.members s.entries c.in-Some.task in
    let taken : last ≡ left ++ job ∷ [] =
    put_one s.tree s.members s.entries c.pop.new.self.items c.loop-task.self.pending.items
    c.in-Some.task c.in-Some.ensures.items in
    λ _. omega (
      arith,
      c.loop-task.invariant.fewer,
      turns_fall f c.loop-task.self.line c.step.new.self.line last left rest job taken
          c.in_ok-step.ensures,
    )

pub loop-task-smaller : goal.loop-task-smaller
loop-task-smaller g c =
    let f = g.F.Form.spelling in
    let s = g.S.Shown in
    let first = jobs_in s.tree s.members s.entries c.args.self.now.pending.items in
    let last = jobs_in s.tree s.members s.entries c.loop-task.self.pending.items in
    let left = jobs_in s.tree s.members s.entries c.pop.new.self.items in
    let rest = jobs_in s.tree s.members s.entries c.step.new.self.pending.items in
    let job = job_of s.tree s.members s.entries c.in-Some.task in
    let taken : last ≡ left ++ job ∷ [] =
    put_one s.tree s.members s.entries c.pop.new.self.items c.loop-task.self.pending.items
    c.in-Some.task c.in-Some.ensures.items in
    turns_fall f c.loop-task.self.line c.step.new.self.line last left rest job taken
    c.in_ok-step.ensures

pub loop-task-preserved : goal.loop-task-preserved
loop-task-preserved g c =
    let f = g.F.Form.spelling in
    let s = g.S.Shown in
    let first = jobs_in s.tree s.members s.entries c.args.self.now.pending.items in
    let last = jobs_in s.tree s.members s.entries c.loop-task.self.pending.items in
    let left = jobs_in s.tree s.members s.entries c.pop.new.self.items in
    let rest = jobs_in s.tree s.members s.entries c.step.new.self.pending.items in
    let job = job_of s.tree s.members s.entries c.in-Some.task in
    let taken : last ≡ left ++ job ∷ [] =
    put_one s.tree s.members s.entries c.pop.new.self.items c.loop-task.self.pending.items
    c.in-Some.task c.in-Some.ensures.items in
    record {
      text =
          text_grows f c.loop-task.self.line c.step.new.self.line first last left rest job taken
          c.loop-task.invariant.text c.in_ok-step.ensures;
      block = c.loop-task.invariant.block;
      fewer = omega (
        arith,
        c.loop-task.invariant.fewer,
        turns_fall f c.loop-task.self.line c.step.new.self.line last left rest job taken
            c.in_ok-step.ensures,
      );
    }

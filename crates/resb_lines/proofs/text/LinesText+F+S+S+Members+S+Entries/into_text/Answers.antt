-- A task is taken and done: what is left, and what was made, are together the text.
use Rattle.std.proofs.Common.{◌≡◌, refl, ◌++◌, ◌∷◌, [], ◌<◌, arith, length}
use Rattle.std.specs.String.{string_bytes}
use Rattle.resb_lines.specs.Inner.Jobs.{jobs_in, job_of, jobs_on, all_on}
use Rattle.resb_lines.proofs.Jobs.{put_one, text_grows, turns_fall, part_is_long}
use Rattle.resb_lines.proofs.RoomLemmas.{no_room}
use Rattle.resb_lines.proofs.text.LinesText+F+S+S+Members+S+Entries.into_text.Goals as goal

pub returns-then-not-has_room : goal.returns-then-not-has_room
returns-then-not-has_room g c =
    let f = g.F.Form.spelling in
    let s = g.S.Shown in
    let first = jobs_in s.tree s.members s.entries c.args.self.pending.items in
    let last = jobs_in s.tree s.members s.entries c.loop-task.self.pending.items in
    let left = jobs_in s.tree s.members s.entries c.pop.new.self.items in
    let job = job_of s.tree s.members s.entries c.in-Some.task in
    let taken : last ≡ left ++ job ∷ [] =
    put_one s.tree s.members s.entries c.pop.new.self.items c.loop-task.self.pending.items
    c.in-Some.task c.in-Some.ensures.items in
    no_room f g.met.F.Form.grows c.args.limit c.len.result c.loop-task.self.line first last left job
    taken c.loop-task.invariant.text (omega arith) (c.if-not-has_room.ensures refl)

pub returns-then-len-limit : goal.returns-then-len-limit
returns-then-len-limit g c =
    let f = g.F.Form.spelling in
    let s = g.S.Shown in
    let first = jobs_in s.tree s.members s.entries c.args.self.pending.items in
    let last = jobs_in s.tree s.members s.entries c.loop-task.self.pending.items in
    let left = jobs_in s.tree s.members s.entries c.pop.new.self.items in
    let rest = jobs_in s.tree s.members s.entries c.step.new.self.pending.items in
    let job = job_of s.tree s.members s.entries c.in-Some.task in
    let taken : last ≡ left ++ job ∷ [] =
    put_one s.tree s.members s.entries c.pop.new.self.items c.loop-task.self.pending.items
    c.in-Some.task c.in-Some.ensures.items in
    let over : c.args.limit < length (string_bytes c.step.new.self.line) = omega arith in
    part_is_long c.args.limit c.step.new.self.line (jobs_on f rest []) (all_on f first)
    (text_grows f c.loop-task.self.line c.step.new.self.line first last left rest job taken
    c.loop-task.invariant.text c.in_ok-step.ensures) over

pub loop-task-smaller : goal.loop-task-smaller
loop-task-smaller g c =
    let f = g.F.Form.spelling in
    let s = g.S.Shown in
    let first = jobs_in s.tree s.members s.entries c.args.self.pending.items in
    let last = jobs_in s.tree s.members s.entries c.loop-task.self.pending.items in
    let left = jobs_in s.tree s.members s.entries c.pop.new.self.items in
    let rest = jobs_in s.tree s.members s.entries c.step.new.self.pending.items in
    let job = job_of s.tree s.members s.entries c.in-Some.task in
    let taken : last ≡ left ++ job ∷ [] =
    put_one s.tree s.members s.entries c.pop.new.self.items c.loop-task.self.pending.items
    c.in-Some.task c.in-Some.ensures.items in
    turns_fall f c.loop-task.self.line c.step.new.self.line last left rest job taken
    c.in_ok-step.ensures

pub loop-task-preserved : goal.loop-task-preserved
loop-task-preserved g c =
    let f = g.F.Form.spelling in
    let s = g.S.Shown in
    let first = jobs_in s.tree s.members s.entries c.args.self.pending.items in
    let last = jobs_in s.tree s.members s.entries c.loop-task.self.pending.items in
    let left = jobs_in s.tree s.members s.entries c.pop.new.self.items in
    let rest = jobs_in s.tree s.members s.entries c.step.new.self.pending.items in
    let job = job_of s.tree s.members s.entries c.in-Some.task in
    let taken : last ≡ left ++ job ∷ [] =
    put_one s.tree s.members s.entries c.pop.new.self.items c.loop-task.self.pending.items
    c.in-Some.task c.in-Some.ensures.items in
    record {
      text =
          text_grows f c.loop-task.self.line c.step.new.self.line first last left rest job taken
          c.loop-task.invariant.text c.in_ok-step.ensures;
      within = omega arith;
    }

use Rattle.std.proofs.Common.{◌++◌, ◌∷◌, [], ap, ◌∙◌}
use Rattle.std.proofs.lemmas.Result.{on_ok_weaker}
use Rattle.resb_lines.specs.Inner.Jobs.{jobs_in, members_job, member_job}
use Rattle.resb_lines.specs.declared.task.Task.TheVariants.{Members, Member}
use Rattle.resb_lines.proofs.Jobs.{put_two}
use Rattle.resb_lines.proofs.Values.{members_next}
use Rattle.resb_lines.proofs.text.LinesText+F+S+S+Members+S+Entries.step_members.Goals as goal

pub returns : goal.returns
returns g c =
    let s = g.S.Shown in
    let first = c.args.self.now.pending.items in
    let before = jobs_in s.tree s.members s.entries first in
    let rest = Members c.next_member.new.ahead c.args.level c.args.place in
    let next = Member c.in-Some.member c.deeper.result in
    let left = members_job c.args.place c.args.level (s.members c.next_member.new.ahead) in
    on_ok_weaker c.put-2.result (λ w.
    members_next g.F.Form.spelling c.args.self.now.line c.put-2.new.self.line before
    (jobs_in s.tree s.members s.entries c.put-2.new.self.pending.items) c.args.place c.args.level
    (s.members c.args.ahead) (s.members c.next_member.new.ahead) (s.tree c.in-Some.member)
    c.in-Some.ensures
    (c.put-2.ensures.line ∙ c.in_ok-put.ensures.line)
    (put_two s.tree s.members s.entries first c.put.new.self.pending.items
    c.put-2.new.self.pending.items rest next c.in_ok-put.ensures.put w
    ∙ ap (λ n. before ++ left ∷ member_job n (s.tree c.in-Some.member) ∷ []) c.deeper.ensures))
    c.put-2.ensures.put

use Rattle.std.proofs.Common.{refl, arith}
use Rattle.std.proofs.lemmas.Result.{on_ok_weaker}
use Rattle.resb_print.specs.Printed.{line_on}
use Rattle.resb_print.specs.declared.place.Place.TheVariants.{InArray}
use Rattle.resb_lines.specs.Inner.Jobs.{jobs_in, member_job}
use Rattle.resb_lines.proofs.Jobs.{begins_value}
use Rattle.resb_lines.proofs.text.LinesText+F+S+S+Members+S+Entries.push_member.Goals as goal

pub returns : goal.returns
returns g c =
    let s = g.S.Shown in
    let n = c.args.level in
    let t = s.tree c.args.member in
    on_ok_weaker c.push_value.result (λ d.
    begins_value g.F.Form.spelling c.args.self.now.line c.push_line.new.out
    c.push_value.new.self.line (line_on n)
    (jobs_in s.tree s.members s.entries c.args.self.now.pending.items)
    (jobs_in s.tree s.members s.entries c.push_value.new.self.pending.items) InArray n t
    (member_job n t) c.in_ok-push_line.ensures d (λ rest. refl) (omega arith)) c.push_value.ensures

use Rattle.std.proofs.Common.{ap, ◌∙◌, codes}
use Rattle.std.specs.String.{string_bytes}
use Rattle.std.proofs.lemmas.Result.{on_ok_weaker}
use Rattle.resb_lines.specs.Inner.Jobs.{jobs_in}
use Rattle.resb_lines.specs.declared.task.Task.TheVariants.{Numbers, Digits}
use Rattle.resb_lines.proofs.Jobs.{put_one, appends_bytes}
use Rattle.resb_lines.proofs.Values.{value_binary, value_vector}
use Rattle.resb_lines.proofs.text.LinesText+F+S+S+Members+S+Entries.push_value.Goals as goal

pub returns-in_ok-push_str-in-Binary : goal.returns-in_ok-push_str-in-Binary
returns-in_ok-push_str-in-Binary g c =
    let s = g.S.Shown in
    let first = c.args.self.now.pending.items in
    let left = Digits c.in-Binary.bytes c.args.place in
    on_ok_weaker c.put.result (λ w.
    value_binary g.F.Form.spelling c.args.self.now.line c.put.new.self.line
    (jobs_in s.tree s.members s.entries first)
    (jobs_in s.tree s.members s.entries c.put.new.self.pending.items) c.args.place c.args.level
    (s.tree c.args.shown) c.in-Binary.bytes.now c.in-Binary.ensures
    (appends_bytes c.args.self.now.line c.put.new.self.line (codes ":bin{\"")
    (ap string_bytes c.put.ensures.line ∙ c.in_ok-push_str-in-Binary.ensures.bytes))
    (put_one s.tree s.members s.entries first c.put.new.self.pending.items left w))
    c.put.ensures.put

pub returns-in_ok-push_str-in-IntVector : goal.returns-in_ok-push_str-in-IntVector
returns-in_ok-push_str-in-IntVector g c =
    let s = g.S.Shown in
    let first = c.args.self.now.pending.items in
    let new = c.put-in-IntVector.new.self in
    let left = Numbers c.args.shown 0 c.args.place in
    on_ok_weaker c.put-in-IntVector.result (λ w.
    value_vector g.F.Form.spelling c.args.self.now.line new.line
    (jobs_in s.tree s.members s.entries first)
    (jobs_in s.tree s.members s.entries new.pending.items)
    c.args.place c.args.level (s.tree c.args.shown) c.in-IntVector.ensures.0
    c.in-IntVector.ensures.1
    (appends_bytes c.args.self.now.line new.line (codes ":intvector{")
    (ap string_bytes c.put-in-IntVector.ensures.line
    ∙ c.in_ok-push_str-in-IntVector.ensures.bytes))
    (put_one s.tree s.members s.entries first new.pending.items left w))
    c.put-in-IntVector.ensures.put

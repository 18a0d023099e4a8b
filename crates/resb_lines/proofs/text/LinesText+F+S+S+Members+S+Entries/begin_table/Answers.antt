use Rattle.std.proofs.Common.{◌++◌, ◌∷◌, [], ap, ◌∙◌, codes}
use Rattle.std.specs.String.{string_bytes}
use Rattle.std.proofs.lemmas.Result.{on_ok_weaker}
use Rattle.resb_lines.specs.Inner.Jobs.{jobs_in, entries_job, entry_job}
use Rattle.resb_lines.specs.declared.task.Task.TheVariants.{Entries, Entry}
use Rattle.resb_lines.proofs.Jobs.{put_two, appends_bytes}
use Rattle.resb_lines.proofs.Values.{table_more}
use Rattle.resb_lines.proofs.text.LinesText+F+S+S+Members+S+Entries.begin_table.Goals as goal

pub returns : goal.returns
returns g c =
    let s = g.S.Shown in
    let first = c.args.self.now.pending.items in
    let before = jobs_in s.tree s.members s.entries first in
    let key = c.in-Some.next.0 in
    let value = c.in-Some.next.1 in
    let rest = Entries c.next_entry.new.ahead c.args.level c.args.place in
    let next = Entry key value c.deeper.result in
    let left = entries_job c.args.place c.args.level (s.entries c.next_entry.new.ahead) in
    on_ok_weaker c.put-2.result (λ w.
    table_more g.F.Form.spelling c.args.self.now.line c.put-2.new.self.line before
    (jobs_in s.tree s.members s.entries c.put-2.new.self.pending.items) c.args.place c.args.level
    (s.entries c.args.ahead) (s.entries c.next_entry.new.ahead) key.now (s.tree value)
    c.in-Some.ensures
    (appends_bytes c.args.self.now.line c.put-2.new.self.line (codes "{")
    (ap string_bytes (c.put-2.ensures.line ∙ c.in_ok-put.ensures.line)
    ∙ c.in_ok-push_str-2.ensures.bytes))
    (put_two s.tree s.members s.entries first c.put.new.self.pending.items
    c.put-2.new.self.pending.items rest next c.in_ok-put.ensures.put w
    ∙ ap (λ n. before ++ left ∷ entry_job n key.now (s.tree value) ∷ []) c.deeper.ensures))
    c.put-2.ensures.put

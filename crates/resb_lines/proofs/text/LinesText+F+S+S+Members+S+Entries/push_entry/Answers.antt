use Rattle.std.proofs.Common.{refl, arith}
use Rattle.std.proofs.lemmas.Result.{on_ok_weaker}
use Rattle.resb_print.specs.Printed.{line_on}
use Rattle.resb_print.specs.declared.place.Place.TheVariants.{InTable}
use Rattle.resb_lines.specs.Inner.Jobs.{jobs_in, entry_job}
use Rattle.resb_lines.proofs.Jobs.{begins_value, in_turn}
use Rattle.resb_lines.proofs.text.LinesText+F+S+S+Members+S+Entries.push_entry.Goals as goal

pub returns : goal.returns
returns g c =
    let f = g.F.Form.spelling in
    let s = g.S.Shown in
    let old = c.args.self.now.line in
    let n = c.args.level in
    let k = c.args.key.now in
    let t = s.tree c.args.value in
    on_ok_weaker c.push_value.result (λ d.
    begins_value f old c.push_key.new.out c.push_value.new.self.line
    (λ rest. line_on n (f.key_on k rest))
    (jobs_in s.tree s.members s.entries c.args.self.now.pending.items)
    (jobs_in s.tree s.members s.entries c.push_value.new.self.pending.items) InTable n t
    (entry_job n k t)
    (in_turn old c.push_line.new.out c.push_key.new.out (line_on n) (f.key_on k)
    c.in_ok-push_line.ensures c.in_ok-push_key.ensures) d (λ rest. refl) (omega arith))
    c.push_value.ensures

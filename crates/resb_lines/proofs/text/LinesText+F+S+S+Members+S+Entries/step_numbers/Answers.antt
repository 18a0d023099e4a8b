use Rattle.std.proofs.Common.{◌++◌, refl, ap, ◌∙◌, codes}
use Rattle.std.specs.String.{string_bytes}
use Rattle.std.proofs.lemmas.Result.{on_ok_weaker}
use Rattle.resb_lines.specs.Inner.Jobs.{jobs_in}
use Rattle.std.specs.Prelude.{nat_lt, ◌+◌, decimal}
use Rattle.resb_print.specs.Printed.{end_on}
use Rattle.resb_lines.specs.Inner.Jobs.{comma_on}
use Rattle.resb_shown.specs.Shown.{numbers_in}
use Rattle.resb_lines.specs.declared.task.Task.TheVariants.{Numbers}
use Rattle.resb_lines.proofs.Jobs.{put_one, appends_bytes, in_turn}
use Rattle.resb_lines.proofs.Values.{numbers_end, numbers_next}
use Rattle.resb_lines.proofs.text.LinesText+F+S+S+Members+S+Entries.step_numbers.Goals as goal

pub returns-in_default : goal.returns-in_default
returns-in_default g c =
    let s = g.S.Shown in
    let before = jobs_in s.tree s.members s.entries c.args.self.now.pending.items in
    let old = c.args.self.now.line in
    on_ok_weaker c.push_end.result (λ w.
    numbers_end g.F.Form.spelling old c.push_end.new.out before before c.args.place 0
    (nat_lt 0 c.args.at) (numbers_in (s.tree c.args.vector)) c.args.at
    c.in_default.ensures.number
    (in_turn old c.push_str.new.self c.push_end.new.out (λ rest. codes "}" ++ rest)
    (end_on c.args.place)
    (appends_bytes old c.push_str.new.self (codes "}") c.in_ok-push_str.ensures.bytes) w) refl)
    c.push_end.ensures

pub returns : goal.returns
returns g c =
    let s = g.S.Shown in
    let first = c.args.self.now.pending.items in
    let before = jobs_in s.tree s.members s.entries first in
    let left = Numbers c.args.vector (c.args.at + 1) c.args.place in
    on_ok_weaker c.put.result (λ w.
    numbers_next g.F.Form.spelling c.args.self.now.line c.put.new.self.line before
    (jobs_in s.tree s.members s.entries c.put.new.self.pending.items) c.args.place 0
    (nat_lt 0 c.args.at) (numbers_in (s.tree c.args.vector)) c.args.at c.in-Some.number
    c.in-Some.ensures.number
    (λ rest. ap (λ l. string_bytes l ++ rest) c.put.ensures.line
    ∙ in_turn c.args.self.now.line c.push_comma.new.out c.push_number.new.out
    (comma_on (nat_lt 0 c.args.at)) (λ r. decimal c.in-Some.number ++ r)
    c.in_ok-push_comma.ensures c.in_ok-push_number.ensures rest)
    (put_one s.tree s.members s.entries first c.put.new.self.pending.items left w))
    c.put.ensures.put

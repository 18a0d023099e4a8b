use Rattle.std.proofs.Common.{rules, ◌++◌, ◌<◌, refl, sym, ap, ◌∙◌, codes, length}
use Rattle.std.specs.String.{string_bytes}
use Rattle.std.proofs.lemmas.Bool.{eqb-true}
use Rattle.std.proofs.lemmas.List.{nil_from_length}
use Rattle.std.proofs.lemmas.Result.{on_ok_weaker}
use Rattle.resb_print.specs.Printed.{end_on}
use Rattle.resb_lines.specs.Inner.Jobs.{jobs_in}
use Rattle.resb_lines.specs.declared.task.Task.TheVariants.{Digits}
use Rattle.resb_lines.proofs.Jobs.{put_one, appends_bytes, in_turn}
use Rattle.resb_lines.proofs.Values.{digits_end, digits_next}
use Rattle.resb_lines.proofs.text.LinesText+F+S+S+Members+S+Entries.step_digits.Goals as goal

pub returns-then-is_empty : goal.returns-then-is_empty
returns-then-is_empty g c =
    let s = g.S.Shown in
    let before = jobs_in s.tree s.members s.entries c.args.self.now.pending.items in
    let old = c.args.self.now.line in
    on_ok_weaker c.push_end.result (λ w.
    digits_end g.F.Form.spelling old c.push_end.new.out before before c.args.place 0
    c.args.bytes.now (nil_from_length _ (eqb-true _ 0 (sym c.if-is_empty.ensures)))
    (in_turn old c.push_str.new.self c.push_end.new.out (λ rest. codes "\"}" ++ rest)
    (end_on c.args.place)
    (appends_bytes old c.push_str.new.self (codes "\"}") c.in_ok-push_str.ensures.bytes) w) refl)
    c.push_end.ensures

pub returns : goal.returns
returns g c =
    let s = g.S.Shown in
    let first = c.args.self.now.pending.items in
    let bytes = c.args.bytes.now in
    let next = c.split_at.result.0.now in
    let rest = c.split_at.result.1 in
    let fewer : length rest.now < length bytes = search rules in
    on_ok_weaker c.put.result (λ w.
    digits_next g.F.Form.spelling c.args.self.now.line c.put.new.self.line
    (jobs_in s.tree s.members s.entries first)
    (jobs_in s.tree s.members s.entries c.put.new.self.pending.items) c.args.place 0 bytes next
    rest.now (sym c.split_at.ensures.by_index.0) fewer
    (λ more. ap (λ l. string_bytes l ++ more) c.put.ensures.line ∙ c.in_ok-push_digits.ensures more)
    (put_one s.tree s.members s.entries first c.put.new.self.pending.items
    (Digits rest c.args.place) w)) c.put.ensures.put

use Rattle.std.proofs.Common.{sym, ap, subst, refl, arith, None}
use Rattle.resb_tree.specs.Tree.{tree_count}
use Rattle.resb_print.specs.Held.{IsHeld}
use Rattle.resb_print.specs.Paths.{steps_in, found_at}
use Rattle.resb_lines.specs.declared.inside.Inside.TheVariants.{Members, Entries}
use Rattle.resb_lines.specs.Inner.Looks.{looks_in, members_look, entries_look, without_last}
use Rattle.resb_lines.proofs.Ascending.{keys_ascend}
use Rattle.resb_lines.proofs.Looking.{enters_leaf, enters_inside, look_put}
use Rattle.resb_lines.proofs.causes.enter.Goals as goal

pub returns-in_ok-put-in-Array : goal.returns-in_ok-put-in-Array
returns-in_ok-put-in-Array g c =
    let s = g.S.Shown in
    let tests = g.F.Form.tests in
    let first = c.args.pending.now.items in
    let new = c.put.new.pending.items in
    let path = steps_in c.args.path.now.items in
    let is = c.in-Array.ensures in
    enters_inside tests (looks_in s.members s.entries first) (looks_in s.members s.entries new)
    path path (s.tree c.args.shown) (members_look 0 (s.members c.in-Array.members))
    (λ later. ap (λ t. found_at tests path t (later (without_last path))) (sym is))
    (subst IsHeld (sym is)) (omega (arith, ap tree_count is))
    (look_put s.members s.entries first new (Members c.in-Array.members 0)
    c.in_ok-put-in-Array.ensures) refl

pub returns-in_ok-put-in-Table : goal.returns-in_ok-put-in-Table
returns-in_ok-put-in-Table g c =
    let s = g.S.Shown in
    let tests = g.F.Form.tests in
    let first = c.args.pending.now.items in
    let new = c.put-in-Table.new.pending.items in
    let path = steps_in c.args.path.now.items in
    let es = s.entries c.in-Table.entries in
    let is = c.in-Table.ensures.0 in
    enters_inside tests (looks_in s.members s.entries first) (looks_in s.members s.entries new)
    path path (s.tree c.args.shown) (entries_look es)
    (λ later. ap (λ t. found_at tests path t (later (without_last path))) (sym is))
    (λ h. subst IsHeld (sym is) (keys_ascend es c.in-Table.ensures.1, h))
    (omega (arith, ap tree_count is))
    (look_put s.members s.entries first new (Entries c.in-Table.entries)
    c.in_ok-put-in-Table.ensures) refl

pub returns-in-Binary : goal.returns-in-Binary
returns-in-Binary g c =
    let s = g.S.Shown in
    let tests = g.F.Form.tests in
    let before = looks_in s.members s.entries c.args.pending.now.items in
    let path = steps_in c.args.path.now.items in
    let is = c.in-Binary.ensures in
    enters_leaf tests before before path (steps_in c.step_back-in-Binary.new.path.items)
    (s.tree c.args.shown) None c.step_back-in-Binary.result c.step_back-in-Binary.ensures.same
    (λ later. ap (λ t. found_at tests path t later) is) refl c.step_back-in-Binary.ensures.path
    (subst IsHeld (sym is) c.are_bytes.ensures) (omega (arith, ap tree_count is))

pub returns-in-Integer : goal.returns-in-Integer
returns-in-Integer g c =
    let s = g.S.Shown in
    let tests = g.F.Form.tests in
    let before = looks_in s.members s.entries c.args.pending.now.items in
    let path = steps_in c.args.path.now.items in
    let is = c.in-Integer.ensures in
    enters_leaf tests before before path (steps_in c.step_back-in-Integer.new.path.items)
    (s.tree c.args.shown) None c.step_back-in-Integer.result c.step_back-in-Integer.ensures.same
    (λ later. ap (λ t. found_at tests path t later) is) refl c.step_back-in-Integer.ensures.path
    (subst IsHeld (sym is) c.is_small.ensures) (omega (arith, ap tree_count is))

pub returns-in-IntVector : goal.returns-in-IntVector
returns-in-IntVector g c =
    let s = g.S.Shown in
    let tests = g.F.Form.tests in
    let before = looks_in s.members s.entries c.args.pending.now.items in
    let path = steps_in c.args.path.now.items in
    let is = c.in-IntVector.ensures.1 in
    enters_leaf tests before before path (steps_in c.step_back-in-IntVector.new.path.items)
    (s.tree c.args.shown) None c.step_back-in-IntVector.result
    c.step_back-in-IntVector.ensures.same
    (λ later. ap (λ t. found_at tests path t later) is) refl
    c.step_back-in-IntVector.ensures.path
    (subst IsHeld (sym is) c.in-IntVector.ensures.2) (omega (arith, ap tree_count is))

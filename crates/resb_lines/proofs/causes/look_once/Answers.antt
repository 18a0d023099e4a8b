use Rattle.std.proofs.Common.{rules, ◌≡◌, ◌∙◌, ◌-◌, suc, sym, ap, subst, refl, arith, None}
use Rattle.std.proofs.lemmas.List.{map_push}
use Rattle.std.proofs.lemmas.Result.{IfOk-weaker}
use Rattle.std.specs.Vec.{vec_len}
use Rattle.resb_print.specs.Held.{AreHeld, HeldIn}
use Rattle.resb_print.specs.Paths.{steps_in, step_of, found_among, found_in}
use Rattle.resb_print.specs.declared.path.PathStep.TheVariants.{Key, Member}
use Rattle.resb_lines.specs.declared.inside.Inside.TheVariants.{Members, Entries}
use Rattle.resb_lines.specs.Inner.Looks.{looks_in, members_look, entries_look, without_last}
use Rattle.resb_lines.proofs.Looking.{looked_all, looked_member, looked_entry, look_put}
use Rattle.resb_lines.proofs.Looking.{popped_last}
use Rattle.resb_lines.proofs.causes.look_once.Goals as goal

pub returns-in_default : goal.returns-in_default
returns-in_default g c =
    let s = g.S.Shown in
    let tests = g.F.Form.tests in
    let before = looks_in s.members s.entries c.args.pending.now.items in
    let ps = c.args.path.now in
    let path = steps_in ps.items in
    let n = c.in-Members.number in
    rw c.in-Members.is (looked_all tests before before path (steps_in c.pop.new.self.items)
    (members_look n (s.members c.in-Members.ahead))
    (λ later. ap (λ ts. found_among tests path n ts (later (without_last path)))
    c.in_default.ensures)
    (subst AreHeld (sym c.in_default.ensures) tt) (omega arith) refl
    (ap steps_in c.pop.ensures.rest
    ∙ popped_last ps.items (vec_len ps - 1) (omega (arith, ps.ok.0))))

pub returns-in_default-next_entry : goal.returns-in_default-next_entry
returns-in_default-next_entry g c =
    let s = g.S.Shown in
    let tests = g.F.Form.tests in
    let before = looks_in s.members s.entries c.args.pending.now.items in
    let ps = c.args.path.now in
    let path = steps_in ps.items in
    let pop = c.pop-in_default-next_entry in
    let none = c.in_default-next_entry.ensures in
    rw c.in-Entries.is (looked_all tests before before path (steps_in pop.new.self.items)
    (entries_look (s.entries c.in-Entries.ahead))
    (λ later. ap (λ es. found_in tests path es (later (without_last path))) none)
    (subst HeldIn (sym none) tt) (omega arith) refl
    (ap steps_in pop.ensures.rest
    ∙ popped_last ps.items (vec_len ps - 1) (omega (arith, ps.ok.0))))

pub returns-in_ok-put-in-Members : goal.returns-in_ok-put-in-Members
returns-in_ok-put-in-Members g c =
    let s = g.S.Shown in
    let first = c.args.pending.now.items in
    let put = c.put.new.pending.items in
    let new = c.enter.new.pending.items in
    let ps = c.args.path.now.items in
    let n = c.in-Members.number in
    let m = c.in_ok-next-in-Members.next in
    let next : m ≡ suc n = search rules in
    rw c.in-Members.is (IfOk-weaker c.enter.result _ _ (λ found d.
    looked_member g.F.Form.tests (looks_in s.members s.entries first)
    (looks_in s.members s.entries put) (looks_in s.members s.entries new)
    (steps_in ps) (steps_in c.push.new.self.items) (steps_in c.enter.new.path.items)
    (s.members c.in-Members.ahead) (s.members c.next_member.new.ahead) n m
    (s.tree c.in-Some.member) found c.in-Some.ensures next
    (ap steps_in c.in_ok-push-in-Members.ensures.items ∙ map_push step_of ps (Member n))
    (look_put s.members s.entries first put (Members c.next_member.new.ahead m)
    c.in_ok-put-in-Members.ensures) d) c.enter.ensures)

pub returns-in_ok-put-in-Entries : goal.returns-in_ok-put-in-Entries
returns-in_ok-put-in-Entries g c =
    let s = g.S.Shown in
    let tests = g.F.Form.tests in
    let first = c.args.pending.now.items in
    let put = c.put-in-Entries.new.pending.items in
    let new = c.enter-in-Entries.new.pending.items in
    let ps = c.args.path.now.items in
    let key = c.in-Some-next_entry.next.0 in
    let value = s.tree c.in-Some-next_entry.next.1 in
    let free : None ≡ tests.of_key key.now = c.in_default-key_cause.ensures in
    rw c.in-Entries.is (IfOk-weaker c.enter-in-Entries.result _ _ (λ found d.
    looked_entry tests (looks_in s.members s.entries first) (looks_in s.members s.entries put)
    (looks_in s.members s.entries new) (steps_in ps) (steps_in c.push-in-Entries.new.self.items)
    (steps_in c.enter-in-Entries.new.path.items) (s.entries c.in-Entries.ahead)
    (s.entries c.next_entry.new.ahead) key.now value found c.in-Some-next_entry.ensures free
    (ap steps_in c.in_ok-push-in-Entries.ensures.items ∙ map_push step_of ps (Key key))
    (look_put s.members s.entries first put (Entries c.next_entry.new.ahead)
    c.in_ok-put-in-Entries.ensures) d) c.enter-in-Entries.ensures)

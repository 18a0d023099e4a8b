-- The last of what is to be looked at is looked at: it is the first cause, or as much is left as
-- before.
use Rattle.std.proofs.Common.{◌∙◌, sym}
use Rattle.resb_print.specs.Paths.{steps_in}
use Rattle.resb_lines.specs.Inner.Looks.{looks_in, look_of}
use Rattle.resb_lines.proofs.Looking.{cause_met, cause_passed, held_passed, fewer_looks, look_put}
use Rattle.resb_lines.proofs.causes.find_inside.Goals as goal

pub returns-in-Some-2-clause-found : goal.returns-in-Some-2-clause-found
returns-in-Some-2-clause-found g c =
    let s = g.S.Shown in
    let all = looks_in s.members s.entries c.loop-inside.pending.items in
    let left = looks_in s.members s.entries c.pop.new.self.items in
    let after = looks_in s.members s.entries c.look_once.new.pending.items in
    let look = look_of s.members s.entries c.in-Some.inside in
    sym (cause_met g.F.Form.tests all left after (steps_in c.loop-inside.path.items)
    (steps_in c.look_once.new.path.items) look c.in_ok-cause.field-0
    (look_put s.members s.entries c.pop.new.self.items c.loop-inside.pending.items
    c.in-Some.inside c.in-Some.ensures.items) c.in_ok-cause.ensures c.in-Some-2.cause
    c.in-Some-2.is)
    ∙ c.loop-inside.invariant.0

pub loop-inside-smaller : goal.loop-inside-smaller
loop-inside-smaller g c =
    let s = g.S.Shown in
    let all = looks_in s.members s.entries c.loop-inside.pending.items in
    let left = looks_in s.members s.entries c.pop.new.self.items in
    let after = looks_in s.members s.entries c.look_once.new.pending.items in
    let look = look_of s.members s.entries c.in-Some.inside in
    fewer_looks g.F.Form.tests all left after (steps_in c.loop-inside.path.items)
    (steps_in c.look_once.new.path.items) look c.in_ok-cause.field-0
    (look_put s.members s.entries c.pop.new.self.items c.loop-inside.pending.items
    c.in-Some.inside c.in-Some.ensures.items) c.in_ok-cause.ensures

pub loop-inside-preserved : goal.loop-inside-preserved
loop-inside-preserved g c =
    let s = g.S.Shown in
    let all = looks_in s.members s.entries c.loop-inside.pending.items in
    let left = looks_in s.members s.entries c.pop.new.self.items in
    let after = looks_in s.members s.entries c.look_once.new.pending.items in
    let look = look_of s.members s.entries c.in-Some.inside in
    let put = look_put s.members s.entries c.pop.new.self.items c.loop-inside.pending.items
    c.in-Some.inside c.in-Some.ensures.items in
    let path = steps_in c.loop-inside.path.items in
    let next = steps_in c.look_once.new.path.items in (
      cause_passed g.F.Form.tests all left after path next look c.in_ok-cause.field-0 put
          c.in_ok-cause.ensures c.in_default-2.is ∙ c.loop-inside.invariant.0,
      λ h. c.loop-inside.invariant.1 (held_passed g.F.Form.tests all left after path next look
          c.in_ok-cause.field-0 put c.in_ok-cause.ensures c.in_default-2.is h),
    )

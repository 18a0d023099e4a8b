use Rattle.std.proofs.Common.{reverse, refl}
use Rattle.std.proofs.lemmas.Bool.{false≢true}
use Rattle.resb_diff.proofs.WalkLemmas.{looked_found, looked_equal, looked_inside, taken_off}
use Rattle.resb_diff.proofs.WalkLemmas.{not_changed, changed_whole, equal_whole, looked_changed}
use Rattle.resb_diff.proofs.walk.look_at.Goals as goal

pub returns-in_default : goal.returns-in_default
returns-in_default c =
    looked_found c.args.paths.now c.args.found.now.items c.push.new.self.items c.args.next _
    c.requires.found c.requires.pending c.in_ok-push.ensures.items
    (not_changed _ c.args.next.change c.in_default.not-Changed)

pub returns-in_ok-append-in-Some : goal.returns-in_ok-append-in-Some
returns-in_ok-append-in-Some c =
    let o = rw c.in-Some.is at c.in_ok-inside.ensures in
    rw (
      c.in_ok-append-in-Some.ensures.items,
      c.reverse.ensures.items,
      taken_off c.args.pending.now.items c.in-Some.inside.items,
    )
    (looked_inside c.args.paths.now c.open.new.paths c.args.found.now.items c.args.next
    (reverse c.args.pending.now.items) c.in-Some.inside.items c.requires.found c.requires.pending
    (looked_changed c.args.paths.now c.open.new.paths _ c.args.next.change c.in-Changed.old
    c.in-Changed.new c.in-Some.inside.items c.in-Changed.is o))

pub returns-in_ok-push-in-None : goal.returns-in_ok-push-in-None
returns-in_ok-push-in-None c =
    let w = rw c.in-None.is at c.in_ok-inside.ensures in
    rw w.0
    (looked_found c.args.paths.now c.args.found.now.items c.push-then-not-equals.new.self.items
    c.args.next _ c.requires.found c.requires.pending c.in_ok-push-in-None.ensures.items
    (changed_whole _ c.args.next.change c.in-Changed.old c.in-Changed.new c.in-Changed.is w.1
    (λ e. false≢true (c.if-not-equals.ensures.1 e))))

pub returns-else-not-equals : goal.returns-else-not-equals
returns-else-not-equals c =
    let w = rw c.in-None.is at c.in_ok-inside.ensures in
    rw w.0
    (looked_equal c.args.paths.now c.args.found.now.items c.args.next _ c.requires.found
    c.requires.pending (equal_whole _ c.args.next.change c.in-Changed.old c.in-Changed.new
    c.in-Changed.is w.1 (c.if-not-equals.ensures.0 refl)))

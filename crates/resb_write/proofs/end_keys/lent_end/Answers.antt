use Rattle.std.proofs.Common.{◌<◌, ◌≤◌, ◌^◌, ◌+◌, length, ◌∙◌, ap, sym, arith, true, false}
use Rattle.resb_lent.specs.LentEnds.{is_not_behind}
use Rattle.resb_write.proofs.KeyEndsBeside.{last_fits, none_there, there}
use Rattle.resb_write.proofs.end_keys.lent_end.Goals as goal
use Rattle.resb_write.proofs.end_keys.lent_end.Goals.{In-Some}

pub returns-in_default : goal.returns-in_default
returns-in_default c = λ js o.
    none_there c.args.lent.now js c.args.key.now
    (sym c.in_default.is ∙ c.last.ensures c.requires.0 c.requires.1)

pub returns-then-not-is_not_behind : goal.returns-then-not-is_not_behind
returns-then-not-is_not_behind c = λ js o.
    there c.args.lent.now js c.args.key.now c.in-Some.found false
    (c.in-Some.ensures c.requires.0 c.requires.1)
    (ap (is_not_behind c.in-Some.found.bytes.now) (sym o)
    ∙ sym c.is_not_behind.ensures ∙ c.if-not-is_not_behind.true)

fits : (c : In-Some) → (length c.args.key.now ≤ length c.in-Some.found.bytes.now)
    × (c.in-Some.found.at + length c.in-Some.found.bytes.now < 2 ^ 31)
fits c = last_fits c.args.lent.now c.requires.0 c.args.key.now c.in-Some.found c.requires.1
    (c.in-Some.ensures c.requires.0 c.requires.1)

pub overflow_sub-place : goal.overflow_sub-place
overflow_sub-place c = (fits (goal.at.overflow_sub-place c).In-Some).0

pub overflow_cast-place : goal.overflow_cast-place
overflow_cast-place c = let f = fits (goal.at.overflow_cast-place c).In-Some in omega (arith, f.1)

pub overflow_add-place : goal.overflow_add-place
overflow_add-place c = let f = fits (goal.at.overflow_add-place c).In-Some in omega (arith, f.1)

pub overflow_add-result : goal.overflow_add-result
overflow_add-result c = let f = fits (goal.at.overflow_add-result c).In-Some in omega (arith, f.1)

pub returns : goal.returns
returns c = λ js o.
    there c.args.lent.now js c.args.key.now c.in-Some.found true
    (c.in-Some.ensures c.requires.0 c.requires.1)
    (ap (is_not_behind c.in-Some.found.bytes.now) (sym o)
    ∙ sym c.is_not_behind.ensures ∙ c.if-not-is_not_behind.false)

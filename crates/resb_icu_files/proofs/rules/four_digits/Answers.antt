use Rattle.std.proofs.Common.{◌≡◌, ◌+◌, arith}
use Rattle.resb_icu_files.proofs.CollationLemmas.{four_are, four_not}
use Rattle.resb_icu_files.proofs.rules.four_digits.Goals as goal

pub returns-clause-found : goal.returns-clause-found
returns-clause-found c =
    let f = c.in_ok-first.ensures.found in
    let s = c.in_ok-second.ensures.found in
    let t = c.in_ok-third.ensures.found in
    let l = c.in_ok-fourth.ensures.found in
    four_are c.args.rest.now c.args.from _ _ _ _ (rw c.character_at.ensures at f)
    (rw c.character_at-2.ensures at s) (rw c.character_at-3.ensures at t)
    (rw c.character_at-4.ensures at l)

pub returns-in_err-first-clause-none : goal.returns-in_err-first-clause-none
returns-in_err-first-clause-none c =
    let z : c.args.from + 0 ≡ c.args.from = omega arith in
    let e = c.character_at.ensures in
    let n = c.in_err-first.ensures.none in
    rw c.from_residual.ensures (four_not c.args.rest.now c.args.from (λ f s t l. cc (f, e, n, z)))

pub returns-in_err-second-clause-none : goal.returns-in_err-second-clause-none
returns-in_err-second-clause-none c =
    let e = c.character_at-2.ensures in
    let n = c.in_err-second.ensures.none in
    rw c.from_residual-in_err-second.ensures
    (four_not c.args.rest.now c.args.from (λ f s t l. cc (s, e, n)))

pub returns-in_err-third-clause-none : goal.returns-in_err-third-clause-none
returns-in_err-third-clause-none c =
    let e = c.character_at-3.ensures in
    let n = c.in_err-third.ensures.none in
    rw c.from_residual-in_err-third.ensures
    (four_not c.args.rest.now c.args.from (λ f s t l. cc (t, e, n)))

pub returns-in_err-fourth-clause-none : goal.returns-in_err-fourth-clause-none
returns-in_err-fourth-clause-none c =
    let e = c.character_at-4.ensures in
    let n = c.in_err-fourth.ensures.none in
    rw c.from_residual-in_err-fourth.ensures
    (four_not c.args.rest.now c.args.from (λ f s t l. cc (l, e, n)))

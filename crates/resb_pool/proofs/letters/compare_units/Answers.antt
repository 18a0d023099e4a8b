use Rattle.std.proofs.Common.{rules, ◌≡◌, ◌++◌, sym, ◌∙◌, encode_utf8, subst, ℕ, ap}
use Rattle.std.specs.Char.{IsScalar}
use Rattle.std.specs.Ordering.{nat_cmp}
use Rattle.std.specs.Str.Iter.{chars_rest}
use Rattle.std.proofs.lemmas.Option.{MatchOption-at_none}
use Rattle.resb_pool.specs.Order.{start_cmp}
use Rattle.resb_pool.specs.declared.packing.Packing.TheVariants.{Compact}
use Rattle.resb_pool.proofs.Starts.{starts_same, starts_differ, left_goes_on, right_goes_on}
use Rattle.resb_pool.proofs.Starts.{both_start}
use Rattle.resb_pool.proofs.letters.compare_units.Goals as goal

pub loop-x-init : goal.loop-x-init
loop-x-init c =
    ap (λ z. start_cmp Compact z c.args.right.now) (sym c.chars-lefts.ensures.rest)
    ∙ ap (start_cmp Compact (chars_rest c.chars-lefts.result)) (sym c.chars-rights.ensures.rest)

pub loop-x-preserved : goal.loop-x-preserved
loop-x-preserved c =
    let a = c.in-Some-Some in
    let s : IsScalar a.x = search rules in
    let e : a.y ≡ a.x = sym c.if-x-y.true in
    c.loop-x.invariant
    ∙ starts_same (chars_rest c.loop-x.lefts) (chars_rest c.loop-x.rights)
    (chars_rest c.next.new.self) (chars_rest c.next-in-loop-x.new.self) a.x a.ensures.steps.0 s
    (subst (λ (z : ℕ). chars_rest c.loop-x.rights
    ≡ encode_utf8 z ++ chars_rest c.next-in-loop-x.new.self) e a.ensures'.steps.0)

pub returns-in-Some-Some-2 : goal.returns-in-Some-Some-2
returns-in-Some-Some-2 c =
    let a = c.in-Some-Some in
    let s : IsScalar a.x = search rules in
    let t : IsScalar a.y = search rules in
    c.cmp.ensures
    ∙ (λ i. nat_cmp (c.first_rank.ensures i) (c.first_rank-in-Some-Some-2.ensures i))
    ∙ sym (c.loop-x.invariant
    ∙ starts_differ (chars_rest c.loop-x.lefts) (chars_rest c.loop-x.rights)
    (chars_rest c.next.new.self) (chars_rest c.next-in-loop-x.new.self) a.x a.ensures.steps.0 s
    a.y a.ensures'.steps.0 t c.if-x-y.false)

pub returns-in-Some-None : goal.returns-in-Some-None
returns-in-Some-None c =
    let a = c.in-Some-None in
    let s : IsScalar a.field-0-0 = search rules in
    sym (c.loop-x.invariant ∙ left_goes_on (chars_rest c.loop-x.lefts)
    (chars_rest c.loop-x.rights) (chars_rest c.next.new.self) a.field-0-0 a.ensures.steps.0 s
    (MatchOption-at_none _ _ a.is-1 c.next-in-loop-x.ensures.steps.0).0)

pub returns-in-None-Some : goal.returns-in-None-Some
returns-in-None-Some c =
    let a = c.in-None-Some in
    let s : IsScalar a.field-0-1 = search rules in
    sym (c.loop-x.invariant ∙ right_goes_on (chars_rest c.loop-x.lefts)
    (chars_rest c.loop-x.rights) (chars_rest c.next-in-loop-x.new.self) a.field-0-1
    a.ensures.steps.0 s
    (MatchOption-at_none _ _ a.is-0 c.next.ensures.steps.0).0)

pub returns-in-None-None : goal.returns-in-None-None
returns-in-None-None c =
    let a = c.in-None-None in
    sym (c.loop-x.invariant ∙ both_start (chars_rest c.loop-x.lefts) (chars_rest c.loop-x.rights)
    (MatchOption-at_none _ _ a.is-0 c.next.ensures.steps.0).0
    (MatchOption-at_none _ _ a.is-1 c.next-in-loop-x.ensures.steps.0).0)

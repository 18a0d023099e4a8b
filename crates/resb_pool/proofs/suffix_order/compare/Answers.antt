-- What is left of both texts stands before an end that they share.
use Rattle.std.proofs.Common.{rules, ◌≡◌, ◌++◌, sym, ◌∙◌, encode_utf8, subst, ℕ, List}
use Rattle.std.specs.Char.{IsScalar}
use Rattle.std.specs.Ordering.{nat_cmp}
use Rattle.std.specs.Str.Iter.{chars_rest}
use Rattle.std.proofs.lemmas.Option.{MatchOption-at_none}
use Rattle.resb_pool.specs.Inner.Cuts.{IsCut, IsShared}
use Rattle.resb_pool.proofs.Cut.{cut_more, shared_deeper}
use Rattle.resb_pool.proofs.Ends.{by_last, left_longer, right_longer, both_end}
use Rattle.resb_pool.proofs.suffix_order.compare.Goals as goal

pub loop-x-init : goal.loop-x-init
loop-x-init c =
    let s = c.args.left.now in
    let t = c.args.right.now in
    let x = c.strip_blocks.result in
    let y = c.strip_shared.result in
    let h : IsShared s t y.0.now y.1.now = shared_deeper s t x.0.now x.1.now y.0.now y.1.now
    c.strip_blocks.ensures c.strip_shared.ensures in
    subst (λ (z : List ℕ). IsShared s t z (chars_rest c.chars-rights.result))
    (sym c.chars-lefts.ensures.rest)
    (subst (IsShared s t y.0.now) (sym c.chars-rights.ensures.rest) h)

pub loop-x-preserved : goal.loop-x-preserved
loop-x-preserved c =
    let i = c.loop-x.invariant in
    let a = c.in-Some-Some in
    let s : IsScalar a.x = search rules in
    let t : IsScalar a.y = search rules in
    let e : a.y ≡ a.x = sym c.if-x-y.true in
    record {
      tail = encode_utf8 a.x ++ i.tail;
      left = cut_more c.args.left.now (chars_rest c.loop-x.lefts) (chars_rest c.next_back.new.self)
          i.tail a.x i.left a.ensures.steps s;
      right = subst (λ (z : ℕ). IsCut c.args.right.now (chars_rest c.next_back-in-loop-x.new.self)
          (encode_utf8 z ++ i.tail)) e
          (cut_more c.args.right.now (chars_rest c.loop-x.rights)
          (chars_rest c.next_back-in-loop-x.new.self) i.tail a.y i.right a.ensures'.steps t);
    }

pub returns-in-Some-Some-2 : goal.returns-in-Some-Some-2
returns-in-Some-Some-2 c =
    let a = c.in-Some-Some in
    let s : IsScalar a.x = search rules in
    let t : IsScalar a.y = search rules in
    c.cmp.ensures
    ∙ (λ i. nat_cmp (c.last_rank.ensures i) (c.last_rank-in-Some-Some-2.ensures i))
    ∙ sym (by_last c.args.packing c.args.left.now c.args.right.now (chars_rest c.loop-x.lefts)
    (chars_rest c.loop-x.rights) c.loop-x.invariant (chars_rest c.next_back.new.self)
    (chars_rest c.next_back-in-loop-x.new.self) a.x a.y a.ensures.steps a.ensures'.steps s t
    c.if-x-y.false)

pub returns-in-Some-None : goal.returns-in-Some-None
returns-in-Some-None c =
    let a = c.in-Some-None in
    let s : IsScalar a.field-0-0 = search rules in
    sym (left_longer c.args.packing c.args.left.now c.args.right.now (chars_rest c.loop-x.lefts)
    (chars_rest c.loop-x.rights) c.loop-x.invariant (chars_rest c.next_back.new.self) a.field-0-0
    a.ensures.steps s
    (MatchOption-at_none _ _ a.is-1 c.next_back-in-loop-x.ensures.steps).0)

pub returns-in-None-Some : goal.returns-in-None-Some
returns-in-None-Some c =
    let a = c.in-None-Some in
    let s : IsScalar a.field-0-1 = search rules in
    sym (right_longer c.args.packing c.args.left.now c.args.right.now (chars_rest c.loop-x.lefts)
    (chars_rest c.loop-x.rights) c.loop-x.invariant (chars_rest c.next_back-in-loop-x.new.self)
    a.field-0-1 a.ensures.steps s
    (MatchOption-at_none _ _ a.is-0 c.next_back.ensures.steps).0)

pub returns-in-None-None : goal.returns-in-None-None
returns-in-None-None c =
    let a = c.in-None-None in
    sym (both_end c.args.packing c.args.left.now c.args.right.now (chars_rest c.loop-x.lefts)
    (chars_rest c.loop-x.rights) c.loop-x.invariant
    (MatchOption-at_none _ _ a.is-0 c.next_back.ensures.steps).0
    (MatchOption-at_none _ _ a.is-1 c.next_back-in-loop-x.ensures.steps).0)

use Rattle.std.proofs.Common.{◌≡◌, ◌+◌, ◌<◌, ◌∷◌, ◌++◌, [], length, map, get_or, take, drop}
use Rattle.std.proofs.Common.{refl, sym, ◌∙◌, ap, subst, arith}
use Rattle.std.specs.List.{sum_by}
use Rattle.std.proofs.lemmas.List.{length-append, length-map, take_all}
use Rattle.std.proofs.lemmas.List.Sums.{sum_by-cons, sum_by-append}
use Rattle.resb_tree.specs.LayingOrder.{children, laying_order}
use Rattle.resb_layout.specs.Laid.{Given}
use Rattle.resb_write.specs.Inner.Lending.{lent_of}
use Rattle.resb_write.specs.Inner.Room.{most_units, GivesInTurn}
use Rattle.resb_write.specs.Inner.Counted.{is_near, own_units, Pending}
use Rattle.resb_write.proofs.NodesLemmas.{trees-drop, trees-take}
use Rattle.resb_write.specs.Inner.Nodes.{no_tree}
use Rattle.resb_write.proofs.Marks.{own_few}
use Rattle.resb_write.proofs.Pending.{nothing_passed}
use Rattle.resb_write.proofs.unit_count.count_units.Goals as goal

pub loop-at-init : goal.loop-at-init
loop-at-init g c = λ t f given n. (
  [],
  nothing_passed t,
  subst (λ l. GivesInTurn given l c.coming-coming.result.offsets.now (laying_order t))
      (sym c.coming-coming.ensures.positions)
      (subst (λ l. GivesInTurn given c.args.sites.now.positions.now l (laying_order t))
      (sym c.coming-coming.ensures.offsets) n),
  c.new-marks.ensures.items,
  omega (arith, none given),
  omega arith,
)
  where
    none : (given : Given) → sum_by (own_units (lent_of c.args.sites.now.lent) given) [] ≡ 0
    none given = refl

pub node-requires : goal.node-requires
node-requires g c = let ts = laying_order c.requires.0 in (
  ts,
  c.requires.1,
  omega (arith, c.loop-at-test.true, c.count-at-end.ensures ts c.requires.1),
)

pub count_own-requires : goal.count_own-requires
count_own-requires g c =
    let r = c.requires in
    let ts = laying_order r.0 in
    let i = c.loop-at.at in
    let h : i < length ts =
    omega (arith, c.loop-at-test.true, c.count-at-end.ensures ts r.1) in
    let t = get_or ts i no_tree in
    let rest = drop (i + 1) ts in
    let split = trees-drop ts i h in
    let fits = c.node.ensures ts r.1 h in
    let v = c.loop-at.invariant r.0 r.1 r.3 r.4 in
    let p = subst (Pending v.0) split v.1 in (
      t,
      fits,
      omega (
        arith,
        ap length v.3,
        length-map v.0 (is_near (lent_of c.args.sites.now.lent) r.3),
        ap length p.1,
        length-append p.0 (children t),
      ),
      r.3,
      rest,
      subst (GivesInTurn r.3 c.loop-at.coming.positions.now c.loop-at.coming.offsets.now) split v.2,
    )

pub overflow_add-count : goal.overflow_add-count
overflow_add-count g c =
    let r = c.requires in
    let ts = laying_order r.0 in
    let i = c.loop-at.at in
    let h : i < length ts =
    omega (arith, c.loop-at-test.true, c.count-at-end.ensures ts r.1) in
    let t = get_or ts i no_tree in
    let rest = drop (i + 1) ts in
    let split = trees-drop ts i h in
    let fits = c.node.ensures ts r.1 h in
    let v = c.loop-at.invariant r.0 r.1 r.3 r.4 in
    let p = subst (Pending v.0) split v.1 in
    let k = c.in_ok-count.ensures.counts r.3 t rest p.0 fits
    (subst (GivesInTurn r.3 c.loop-at.coming.positions.now c.loop-at.coming.offsets.now) split v.2)
    (v.3 ∙ ap (map (is_near (lent_of c.args.sites.now.lent) r.3)) p.1) in
    omega (
      arith,
      v.5,
      r.2,
      ap (sum_by most_units) split,
      sum_by-cons most_units t rest,
      own_few (lent_of c.args.sites.now.lent) r.3 t,
      k.units,
    )

pub loop-at-preserved : goal.loop-at-preserved
loop-at-preserved g c = λ u f given n.
    let ts = laying_order u in
    let i = c.loop-at.at in
    let h : i < length ts =
    omega (arith, c.loop-at-test.true, c.count-at-end.ensures ts f) in
    let t = get_or ts i no_tree in
    let rest = drop (i + 1) ts in
    let done = take i ts in
    let split = trees-drop ts i h in
    let more = trees-take ts i h in
    let fits = c.node.ensures ts f h in
    let v = c.loop-at.invariant u f given n in
    let p = subst (Pending v.0) split v.1 in
    let one = c.in_ok-count.ensures.counts given t rest p.0 fits
    (subst (GivesInTurn given c.loop-at.coming.positions.now c.loop-at.coming.offsets.now) split
    v.2) (v.3 ∙ ap (map (is_near (lent_of c.args.sites.now.lent) given)) p.1) in (
      p.0 ++ t ∷ [],
      p.2,
      one.left,
      one.stack,
      omega (
        arith,
        v.4,
        one.units,
        ap (sum_by (own_units (lent_of c.args.sites.now.lent) given)) more,
        sum_by-append (own_units (lent_of c.args.sites.now.lent) given) done (t ∷ []),
        sum_by-cons (own_units (lent_of c.args.sites.now.lent) given) t [],
        none given,
      ),
      omega (
        arith,
        v.5,
        ap (sum_by most_units) split,
        sum_by-cons most_units t rest,
        own_few (lent_of c.args.sites.now.lent) given t,
        one.units,
      ),
    )
  where
    none : (given : Given) → sum_by (own_units (lent_of c.args.sites.now.lent) given) [] ≡ 0
    none given = refl

pub returns-clause-counts : goal.returns-clause-counts
returns-clause-counts g c = λ given t f n. (c.loop-at.invariant t f given n).4
    ∙ ap (λ ts. c.args.pool + sum_by (own_units (lent_of c.args.sites.now.lent) given) ts)
    (take_all c.loop-at.at (laying_order t)
    (omega (arith, c.loop-at-test.false, c.count-at-end.ensures (laying_order t) f)))

pub returns-clause-few : goal.returns-clause-few
returns-clause-few g c = λ t f given n.
    let v = c.loop-at.invariant t f given n in omega (arith, v.5)

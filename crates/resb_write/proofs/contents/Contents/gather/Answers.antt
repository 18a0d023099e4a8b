-- An iteration adds the next resource.
use Rattle.std.proofs.Common.{◌<◌, length, get_or, take, refl, sym, ap, subst, arith}
use Rattle.resb_pool.specs.Plan.{nows}
use Rattle.resb_write.specs.Inner.Gathered.{Gathered}
use Rattle.resb_write.proofs.Gathering.{no_bytes_gathered, no_units_gathered}
use Rattle.resb_write.proofs.NodesLemmas.{trees-take}
use Rattle.resb_write.specs.Inner.Nodes.{no_tree}
use Rattle.std.proofs.lemmas.List.{take_all}
use Rattle.resb_write.proofs.contents.Contents.gather.Goals as goal

pub loop-at-init : goal.loop-at-init
loop-at-init g c = λ ts f. record {
  texts_are = ap nows c.in_ok-with_capacity.ensures.items;
  size_is = omega arith;
  bytes_are = refl;
  bytes_suffice = omega (arith, no_bytes_gathered, no_units_gathered);
  largest_is = refl;
  too_long_is = refl;
  over_is = refl;
}

pub node-requires : goal.node-requires
node-requires g c = (
  c.requires.0,
  c.requires.1,
  omega (arith, c.loop-at-test.true, c.count-at-end.ensures c.requires.0 c.requires.1),
)

pub loop-at-preserved : goal.loop-at-preserved
loop-at-preserved g c = λ ts f.
    let i = c.loop-at.at in
    let h : i < length ts = omega (arith, c.loop-at-test.true, c.count-at-end.ensures ts f) in
    subst (λ us. Gathered us c.add.new.self) (sym (trees-take ts i h))
    (c.in_ok-add.ensures (take i ts) (get_or ts i no_tree) (c.loop-at.invariant ts f)
    (c.node.ensures ts f h))

pub returns : goal.returns
returns g c = λ ts f. subst (λ us. Gathered us c.loop-at.contents)
    (take_all c.loop-at.at ts
    (omega (arith, c.loop-at-test.false, c.count-at-end.ensures ts f)))
    (c.loop-at.invariant ts f)

use Rattle.std.proofs.Common.{◌≡◌, ◌+◌, ◌*◌, ◌%◌, ℕ, [], length, refl, sym, ◌∙◌, ap, subst, arith}
use Rattle.resb_tree.specs.Tree.{Tree}
use Rattle.resb_layout.specs.Laid.{Given, LaysBy}
use Rattle.resb_tree.specs.LayingOrder.{laying_order}
use Rattle.resb_write.specs.Inner.Lending.{lent_of}
use Rattle.resb_write.specs.Inner.Room.{laid_of, HasRoomFor, GivesInTurn}
use Rattle.resb_write.proofs.Counting.{units}
use Rattle.resb_write.proofs.PlacesLeft.{based, same_places_based}
use Rattle.resb_write.proofs.tree_bodies.lay_bodies.Goals as goal
use Rattle.resb_write.proofs.tree_bodies.lay_bodies.Goals.{In_ok-word}

pub count_units-requires : goal.count_units-requires
count_units-requires g c =
    let r = c.requires.tree in
    (r.0, r.1, omega (arith, r.2.units, c.len.ensures, c.args.pool.ok.0), r.3, r.4)

pub lay_order-requires : goal.lay_order-requires
lay_order-requires g c =
    let r = c.requires.tree in
    let few = c.in_ok-count.ensures.few r.0 r.1 r.3 r.4 in (
      r.0,
      r.1,
      record {
        aligned = omega (arith, c.requires.aligned, ap length c.new.ensures.items);
        units = r.2.units;
        bytes = omega (
          arith,
          r.2.bytes,
          few,
          c.len.ensures,
          c.args.pool.ok.0,
          ap length c.new.ensures.items,
        );
      },
      r.3,
      r.4,
    )

-- what is laid has as many units as were counted
count_is : (g : _) (c : In_ok-word g) (given : Given) (t : Tree)
    → g.N.Nodes.fit c.args.order.now (laying_order t)
    → GivesInTurn given c.args.sites.now.positions.now c.args.sites.now.offsets.now
    (laying_order t)
    → length c.lay_order.new.bodies.units.items ≡ c.in_ok-count.count
count_is g c given t f n =
    let base = c.args.keys_end + 2 * (c.in_ok-count.count + c.in_ok-count.count % 2) in
    let h = based given base c.args.sites.now.packing in
    let laid = c.in_ok-word.ensures.lays h refl t refl f (same_places_based n) in
    omega (
      arith,
      (units (lent_of c.args.sites.now.lent) h laid).0,
      c.in_ok-count.ensures.counts h t f (same_places_based n),
      c.len.ensures,
      c.args.pool.ok.0,
    )

pub returns-clause-lays : goal.returns-clause-lays
returns-clause-lays g c = λ given t f n at q.
    let from : ℕ → ℕ = (λ k. c.args.keys_end + 2 * (k + k % 2)) in
    let base = at ∙ ap from (count_is g c given t f n) in
    subst (λ tail. LaysBy (lent_of c.args.sites.now.lent) given
    (record { units = c.args.pool.items; tail = tail }) t
    (laid_of c.lay_order.new.bodies) c.in_ok-word.word) c.new.ensures.items
    (c.in_ok-word.ensures.lays given base t q f n)

pub returns-clause-fits : goal.returns-clause-fits
returns-clause-fits g c =
    let from : ℕ → ℕ = (λ k. c.args.keys_end + 2 * (k + k % 2)) in
    let r = c.requires.tree in
    subst (λ m. HasRoomFor m (laid_of c.lay_order.new.bodies) [])
    (sym (ap from (count_is g c r.3 r.0 r.1 r.4))) c.in_ok-word.ensures.fits

-- The refusals in their order, the room that is left, and the file.
use Rattle.std.proofs.Common.{refl}
use Rattle.std.proofs.Common.{ℕ, ◌+◌, ◌*◌, ◌/◌, ◌%◌, ◌^◌, ◌<◌, ◌≤◌, ◌≡◌, length, map, Some, sym}
use Rattle.std.proofs.Common.{◌∙◌, ap, subst, arith, List, [], ◌++◌}
use Rattle.std.specs.List.{sum_by, All}
use Rattle.std.specs.Option.{is_none}
use Rattle.std.proofs.lemmas.Result.{err_from_is_err_and}
use Rattle.resb_format.specs.Units.{size}
use Rattle.resb_format.specs.Bytes.{units_as_bytes}
use Rattle.resb_pool.specs.Plan.{nows}
use Rattle.resb_tree.specs.Tree.{Tree}
use Rattle.resb_tree.specs.LayingOrder.{laying_order, keys_of, texts_of}
use Rattle.resb_pool_bundle.specs.Pool.{pool_in}
use Rattle.resb_pool.specs.declared.packing.Packing.{Packing}
use Rattle.resb_layout.specs.CompactKeys.{keys_by}
use Rattle.resb_layout.specs.Laid.{LaysBy}
use Rattle.resb_layout.specs.KeyBlock.{key_bytes, padded, used}
use Rattle.resb_layout.specs.PlainSize.{list_size, resources_size}
use Rattle.resb_layout.specs.TreeFaults.{no_memory}
use Rattle.resb_layout.specs.Written.{even}
use Rattle.resb_lent.specs.PlanWithPool.{IsPlanWithBy, lacking}
use Rattle.resb_lent.specs.HeadWithPool.{IsHead, head_bytes}
use Rattle.resb_lent.specs.declared.head_with_pool.HeadWithPool.{HeadWithPool}
use Rattle.resb_lent.proofs.PlanRoom.{look, look_others, looked_up, near_indexes, limit_fits}
use Rattle.resb_lent.proofs.PlanRoom.{short_limit_fits, none_short, lacking_sum}
use Rattle.resb_write.specs.WrittenWith.{RefusesWritingWith, as_alone, WrittenWithBy, BlocksWithBy}
use Rattle.resb_write.specs.WrittenWith.{own_keys_of, own_end_of, position_beside, head_of}
use Rattle.resb_write.specs.WrittenWith.{key_block_beside, tail_start_beside}
use Rattle.resb_write.specs.Inner.Beside.{IsKeyBlockBeside}
use Rattle.resb_write.specs.Inner.Numbered.{NumbersKeys}
use Rattle.resb_write.specs.Inner.Room.{laid_of, GivesInTurn}
use Rattle.resb_write.proofs.Room.{units_room, bytes_room, used_room, length-padded, pool_room}
use Rattle.resb_write.proofs.Blocks.{laying_order_long, even_long, largest_laid}
use Rattle.resb_write.proofs.FilesLemmas.{largest_room}
use Rattle.resb_write.proofs.FilesBeside.{written_with}
use Rattle.resb_write.proofs.KeysBeside.{filter_room}
use Rattle.resb_write.proofs.PackedKeys.{packed_room}
use Rattle.resb_write.proofs.Refusals.{unplanned}
use Rattle.resb_write.proofs.with_pool.write_beside.Goals as goal
use Rattle.resb_write.proofs.with_pool.write_beside.Goals.{After-deref-3}

pub returns-in_err-contents-clause-err : goal.returns-in_err-contents-clause-err
returns-in_err-contents-clause-err g c =
    let p = err_from_is_err_and c.from_residual.result c.from_residual.ensures.1 in
    rw (p.1, p.2) (λ t f k. as_alone (c.in_err-contents.ensures.err t f k))

pub overflow_cast-largest_table : goal.overflow_cast-largest_table
overflow_cast-largest_table g c =
    let t = c.requires.0 in
    let known = c.in_ok-contents.ensures.ok t c.requires.1 c.requires.2 in
    omega (arith, known.2, known.0.largest_is, largest_room (laying_order t))

pub returns-in_err-units-clause-err : goal.returns-in_err-units-clause-err
returns-in_err-units-clause-err g c =
    let p = err_from_is_err_and c.from_residual-in_err-units.result
    c.from_residual-in_err-units.ensures.1 in
    rw (p.1, p.2) (λ t f k.
    let known = c.in_ok-contents.ensures.ok t f k in
    unplanned t c.args.wanted.now.list.now (pool_in c.args.pool.now) known.1.faultless known.2
    c.args.wanted.now.layout.packing (nows c.into_texts.result.items) _
    (ap (λ v. nows v.items) c.into_texts.ensures ∙ known.0.texts_are) c.in_err-units.ensures.err)

-- the own keys take few bytes
few_keys : (q : Packing) (pool : List ℕ) (t : Tree) (ks js : List (List ℕ)) (ps : List ℕ)
    → IsKeyBlockBeside q pool (keys_of t) ks js ps
    → list_size ks + resources_size (laying_order t) < 2 ^ 28
    → length (key_bytes js) + resources_size (laying_order t) < 2 ^ 28
few_keys q pool t ks js ps b small = omega (
  arith,
  small,
  ap (λ l. length (key_bytes l)) b.own,
  filter_room (λ k. is_none (b.place k)) (keys_by q (used (keys_of t) ks)),
  packed_room q (used (keys_of t) ks),
  used_room (keys_of t) ks,
)

pub own_end-requires : goal.own_end-requires
own_end-requires g c =
    let t = c.requires.0 in
    let known = c.in_ok-contents.ensures.ok t c.requires.1 c.requires.2 in
    omega (
      arith,
      few_keys _ _ t c.args.wanted.now.list.now _ _ known.1 known.2,
      ap (λ l. length (key_bytes (nows l))) c.deref.ensures.value,
    )

pub block_length-keys_end-requires : goal.block_length-keys_end-requires
block_length-keys_end-requires g c =
    let t = c.requires.0 in
    let known = c.in_ok-contents.ensures.ok t c.requires.1 c.requires.2 in
    omega (
      arith,
      few_keys _ _ t c.args.wanted.now.list.now _ _ known.1 known.2,
      ap (λ l. length (key_bytes (nows l))) c.deref-4.ensures.value,
    )

-- where the keys and the strings of the tree stand, for a tail that begins at a byte of the body
numbered : (g : _) (c : After-deref-3 g) (base : ℕ) (t : Tree)
    → (f : g.N.Nodes.fit c.args.order (laying_order t))
    → (k : NumbersKeys c.args.tree_keys (keys_of t))
    → let place = (c.in_ok-contents.ensures.ok t f k).1.place in
    GivesInTurn (record {
      position = position_beside c.args.wanted.now.layout.packing place
          (used (keys_of t) c.args.wanted.now.list.now)
          (own_keys_of c.args.wanted.now.layout.packing place t c.args.wanted.now.list.now);
      offset = look (texts_of t) c.in_ok-units.field-0.indexes.items;
      base = base;
      packing = c.args.wanted.now.layout.packing;
    }) c.deref-2.result.now c.deref-3.result.now (laying_order t)
numbered g c base t f us =
    let known = c.in_ok-contents.ensures.ok t f us in
    let q = c.args.wanted.now.layout.packing in
    let keys = known.1 in
    let place = keys.place in
    let ks = c.args.wanted.now.list.now in
    let few = few_keys _ _ t ks _ _ keys known.2 in
    let p = c.in_ok-units.field-0 in
    let block = (pool_in c.args.pool.now).block in
    let plan = subst (λ S. IsPlanWithBy q block S p.units.items p.indexes.items p.limit
    p.short_limit)
    (ap (λ v. nows v.items) c.into_texts.ensures ∙ known.0.texts_are) c.in_ok-units.ensures.ok in
    record {
      keys = (λ i. map (position_beside q place (used (keys_of t) ks) (sym keys.own i)) (keys_of t))
          ∙ keys.positions (omega (arith, few)) ∙ ap (map Some) (sym c.deref-2.ensures.value);
      texts = looked_up q block (texts_of t) p.units.items p.indexes.items p.limit p.short_limit
          plan ∙ ap (map Some) (sym c.deref-3.ensures.value);
      near = subst (All (λ k. k < 2 ^ 28)) (sym c.deref-3.ensures.value)
          (near_indexes q block (texts_of t) p.units.items p.indexes.items p.limit p.short_limit
          plan);
    }

-- the plan's units are few
few_units : (q : Packing) (block : List ℕ) (S : List (List ℕ)) (us is : List ℕ)
    (limit short : ℕ) → IsPlanWithBy q block S us is limit short
    → length us ≤ 1 + sum_by size S
few_units q block S us is limit short w = omega (
  arith,
  pool_room q (lacking S w.found) us w.offset w.plan,
  lacking_sum size S w.found,
)

pub lay_bodies-requires-clause-tree : goal.lay_bodies-requires-clause-tree
lay_bodies-requires-clause-tree g c =
    let r = c.requires in
    let t = r.0 in
    let known = c.in_ok-contents.ensures.ok t r.1 r.2 in
    let ks = c.args.wanted.now.list.now in
    let few = few_keys _ _ t ks _ _ known.1 known.2 in
    let units = few_units _ _ _ _ _ _ _ c.in_ok-units.ensures.ok in
    let same = ap (sum_by size) (ap (λ v. nows v.items) c.into_texts.ensures ∙ known.0.texts_are) in
    let js = ap (λ l. length (key_bytes (nows l))) c.deref-4.ensures.value in (
      t,
      r.1,
      record {
        units = omega (arith, units, same, units_room (laying_order t), laying_order_long t, few);
        bytes = omega (
          arith,
          units,
          same,
          bytes_room (laying_order t),
          few,
          js,
          length-padded (key_bytes (nows c.deref-4.result.now)),
          c.block_length-keys_end.ensures,
        );
      },
      _,
      numbered g ((goal.at.lay_bodies-requires-clause-tree g c).After-deref-3) 0 t r.1 r.2,
    )

pub returns-in_err-bodies-clause-err : goal.returns-in_err-bodies-clause-err
returns-in_err-bodies-clause-err g c =
    let p = err_from_is_err_and c.from_residual-in_err-bodies.result
    c.from_residual-in_err-bodies.ensures.1 in
    rw p.1 (λ t f k. subst (RefusesWritingWith _ t c.args.wanted.now.list.now) (sym p.2) (as_alone
    no_memory))

pub assemble_beside-requires-clause-fits : goal.assemble_beside-requires-clause-fits
assemble_beside-requires-clause-fits g c =
    let t = c.requires.0 in
    let known = c.in_ok-contents.ensures.ok t c.requires.1 c.requires.2 in
    let few = few_keys _ _ t c.args.wanted.now.list.now _ _ known.1 known.2 in
    let room = c.in_ok-bodies.ensures.fits in
    let k = length-padded (key_bytes (nows c.deref-4.result.now)) in
    record {
      keys = omega (arith, few, ap (λ l. length (key_bytes (nows l))) c.deref-5.ensures.value);
      units = omega (arith, room.units);
      tail = omega (arith, room.bytes);
      whole = omega (arith, room.aligned, k, c.block_length-keys_end.ensures);
    }

pub assemble_beside-requires-clause-limits : goal.assemble_beside-requires-clause-limits
assemble_beside-requires-clause-limits g c =
    let p = c.in_ok-units.field-0 in
    let plan = c.in_ok-units.ensures.ok in
    record {
      limit = limit_fits _ _ _ p.units.items p.indexes.items p.limit p.short_limit plan;
      short = short_limit_fits _ _ _ p.units.items p.indexes.items p.limit p.short_limit plan;
      none = none_short _ _ _ p.units.items p.indexes.items p.limit p.short_limit plan;
    }

pub returns-in_err-assemble_beside-clause-err : goal.returns-in_err-assemble_beside-clause-err
returns-in_err-assemble_beside-clause-err g c =
    let p = err_from_is_err_and c.from_residual-in_err-assemble_beside.result
    c.from_residual-in_err-assemble_beside.ensures.1 in
    rw p.1 (λ t f k. subst (RefusesWritingWith _ t c.args.wanted.now.list.now) (sym p.2) (as_alone
    no_memory))

pub returns-clause-ok : goal.returns-clause-ok
returns-clause-ok g c = λ t f k.
    let known = c.in_ok-contents.ensures.ok t f k in
    let place = known.1.place in
    let q = c.args.wanted.now.layout.packing in
    let pool = pool_in c.args.pool.now in
    let ks = c.args.wanted.now.list.now in
    let all = used (keys_of t) ks in
    let fallback = c.args.wanted.now.is_locale_fallback_enabled in
    let p = c.in_ok-units.field-0 in
    let laid = laid_of c.in_ok-bodies.bodies in
    let word = c.in_ok-bodies.word in
    let own = own_keys_of q place t ks in
    let js : nows c.in_ok-contents.block.keys.items ≡ own = known.1.own in
    let plan : IsPlanWithBy q pool.block (texts_of t) p.units.items p.indexes.items p.limit
    p.short_limit = subst (λ S. IsPlanWithBy q pool.block S p.units.items p.indexes.items p.limit
    p.short_limit) (ap (λ v. nows v.items) c.into_texts.ensures ∙ known.0.texts_are)
    c.in_ok-units.ensures.ok in
    let room = c.in_ok-bodies.ensures.fits in
    let base : ℕ = tail_start_beside (key_block_beside q place t ks) laid in
    let base_is : base ≡ 36 + c.block_length-keys_end.result + 2 * (length laid.units
    + length laid.units % 2) = omega (
      arith,
      c.block_length-keys_end.ensures,
      ap (λ l. length (padded (key_bytes (nows l)))) c.deref-4.ensures.value,
      ap (λ l. length (padded (key_bytes l))) js,
      even_long laid.units,
    ) in
    let end : c.own_end.result ≡ own_end_of own = c.own_end.ensures
    ∙ ap (λ l. own_end_of (nows l)) c.deref.ensures.value ∙ ap own_end_of js in
    let lays = c.in_ok-bodies.ensures.lays (record {
      position = position_beside q place all own;
      offset = look (texts_of t) p.indexes.items;
      base = base;
      packing = q;
    }) t f (numbered g ((goal.at.returns-clause-ok g c).After-deref-3) base t f k) base_is refl in
    let b : BlocksWithBy q pool t ks = record {
      place = place;
      places = known.1.places;
      units = p.units.items;
      indexes = p.indexes.items;
      limit = p.limit;
      short = p.short_limit;
      plan = plan;
      offset = look (texts_of t) p.indexes.items;
      offsets = looked_up q pool.block (texts_of t) p.units.items p.indexes.items p.limit
          p.short_limit plan;
      others = look_others (texts_of t) p.indexes.items;
      laid = laid;
      root = word;
      lays = subst (λ n. LaysBy (Some (record {
        own_end = n;
        limit = p.limit;
        short_limit = p.short_limit;
      })) (record {
        position = position_beside q place all own;
        offset = look (texts_of t) p.indexes.items;
        base = base;
        packing = q;
      }) (record { units = p.units.items; tail = [] }) t laid word) end lays;
    } in
    let keys = ap (λ l. padded (key_bytes (nows l))) c.deref-5.ensures.value
    ∙ ap (λ l. padded (key_bytes l)) js in
    let largest = known.0.largest_is ∙ largest_laid t in
    let head : ◌≡◌ {A = HeadWithPool} _ (head_of fallback b) = λ i. record {
      root = word;
      largest_table = largest i;
      is_locale_fallback_enabled = fallback;
      limit = p.limit;
      short_limit = p.short_limit;
      checksum = c.checksum.ensures i;
      key_words = length (keys i) / 4;
      block_words = length (even laid.units) / 2;
      tail_words = length laid.tail / 4;
    } in
    let file = c.in_ok-assemble_beside.ensures.file
    ∙ (λ i. head_bytes (head i) ++ (keys i ++ (units_as_bytes (even laid.units) ++ laid.tail))) in
    subst (λ bytes. WrittenWithBy q pool bytes t fallback ks) (sym file)
    (written_with q pool t ks b fallback known.1.faultless known.1.utf8 known.2 (record {
      aligned = omega (arith, room.aligned, base_is);
      units = omega (arith, room.units);
      bytes = omega (arith, room.bytes, base_is);
    }) c.in_ok-assemble_beside.ensures.fits
    (subst IsHead head c.in_ok-assemble_beside.ensures.head))

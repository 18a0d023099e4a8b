-- The refusals in their order, the room that is left, and the file.
use Rattle.std.proofs.Common.{ℕ, ◌+◌, ◌*◌, ◌%◌, length, map, Some, refl, sym, ◌∙◌, ap}
use Rattle.std.proofs.Common.{subst, arith}
use Rattle.std.specs.List.{sum_by}
use Rattle.std.proofs.lemmas.Result.{err_from_is_err_and}
use Rattle.resb_format.specs.Units.{size}
use Rattle.resb_pool.specs.Plan.{nows, IsPlanBy}
use Rattle.resb_tree.specs.Tree.{Tree}
use Rattle.resb_tree.specs.LayingOrder.{laying_order, keys_of}
use Rattle.resb_write.specs.Inner.Room.{laid_of, GivesInTurn}
use Rattle.resb_write.specs.Inner.Numbered.{NumbersKeys}
use Rattle.resb_layout.specs.KeyBlock.{used, key_bytes, padded}
use Rattle.resb_layout.specs.TreeFaults.{RefusesWriting, no_memory}
use Rattle.resb_layout.specs.Written.{even, WrittenBy}
use Rattle.resb_write.specs.Inner.Files.{file_of}
use Rattle.resb_write.proofs.Room.{units_room, bytes_room, used_room, length-padded, pool_room}
use Rattle.resb_write.proofs.Known.{near_offsets}
use Rattle.resb_write.proofs.Blocks.{laying_order_long}
use Rattle.resb_write.proofs.FilesLemmas.{largest_room, Made, written}
use Rattle.resb_write.proofs.PackedKeys.{packed_room}
use Rattle.resb_layout.specs.CompactKeys.{key_position_by}
use Rattle.resb_write.proofs.Refusals.{plan_refused}
use Rattle.resb_write.proofs.serializer.write_alone.Goals as goal
use Rattle.resb_write.proofs.serializer.write_alone.Goals.{After-deref-3}

pub returns-in_err-contents-clause-err : goal.returns-in_err-contents-clause-err
returns-in_err-contents-clause-err g c =
    let p = err_from_is_err_and c.from_residual.result c.from_residual.ensures.1 in
    rw (p.1, p.2) c.in_err-contents.ensures.err

pub returns-in_err-pool-clause-err : goal.returns-in_err-pool-clause-err
returns-in_err-pool-clause-err g c =
    let p = err_from_is_err_and c.from_residual-in_err-pool.result
    c.from_residual-in_err-pool.ensures.1 in
    rw p.1 (λ t f k.
    let gathered = (c.in_ok-contents.ensures.ok t f k).0 in
    let texts = (ap (λ v. nows v.items) c.into_texts.ensures ∙ gathered.texts_are) in
    let small = (c.in_ok-contents.ensures.ok t f k).2 in
    subst (RefusesWriting t c.args.wanted.now.list.now) (sym p.2)
    (plan_refused t c.args.wanted.now.list.now (nows c.into_texts.result.items) _
    texts small
    c.in_err-pool.ensures.err))

pub block_length-keys_end-requires : goal.block_length-keys_end-requires
block_length-keys_end-requires g c =
    let t = c.requires.0 in
    let gathered = (c.in_ok-contents.ensures.ok t c.requires.1 c.requires.2).0 in
    let small = (c.in_ok-contents.ensures.ok t c.requires.1 c.requires.2).2 in
    let js = ap nows c.deref.ensures.value
    ∙ (c.in_ok-contents.ensures.ok t c.requires.1 c.requires.2).1.keys in
    omega (
      arith,
      small,
      ap (λ l. length (key_bytes l)) js,
      used_room (keys_of t) c.args.wanted.now.list.now,
      packed_room c.args.wanted.now.layout.packing (used (keys_of t) c.args.wanted.now.list.now),
    )

pub overflow_add-keys_end : goal.overflow_add-keys_end
overflow_add-keys_end g c =
    let t = c.requires.0 in
    let gathered = (c.in_ok-contents.ensures.ok t c.requires.1 c.requires.2).0 in
    let small = (c.in_ok-contents.ensures.ok t c.requires.1 c.requires.2).2 in
    let js = ap nows c.deref.ensures.value
    ∙ (c.in_ok-contents.ensures.ok t c.requires.1 c.requires.2).1.keys in
    omega (
      arith,
      small,
      ap (λ l. length (key_bytes l)) js,
      used_room (keys_of t) c.args.wanted.now.list.now,
      packed_room c.args.wanted.now.layout.packing (used (keys_of t) c.args.wanted.now.list.now),
      length-padded (key_bytes (nows c.deref.result.now)),
      c.block_length-keys_end.ensures,
    )

-- where the keys and the strings of the tree stand, for a tail that begins at a byte of the body
numbered : (g : _) (c : After-deref-3 g) (base : ℕ) (t : Tree)
    → g.N.Nodes.fit c.args.order (laying_order t)
    → NumbersKeys c.args.tree_keys (keys_of t)
    → GivesInTurn (record {
      position = key_position_by c.args.wanted.now.layout.packing t c.args.wanted.now.list.now;
      offset = c.in_ok-pool.ensures.ok.offset;
      base = base;
      packing = c.args.wanted.now.layout.packing;
    }) c.deref-2.result.now c.deref-3.result.now (laying_order t)
numbered g c base t f us =
    let gathered = (c.in_ok-contents.ensures.ok t f us).0 in
    let pooled = c.in_ok-pool.ensures.ok in
    let b = (c.in_ok-contents.ensures.ok t f us).1 in
    let list = c.args.wanted.now.list.now in
    let small = (c.in_ok-contents.ensures.ok t f us).2 in
    let texts = (ap (λ v. nows v.items) c.into_texts.ensures ∙ gathered.texts_are) in
    let offsets = pooled.offsets ∙ ap (map Some) (sym c.deref-3.ensures.value) in
    record {
      keys = b.positions (omega (arith, used_room (keys_of t) list, small))
          ∙ ap (map Some) (sym c.deref-2.ensures.value);
      texts = ap (map pooled.offset) (sym texts) ∙ offsets;
      near = near_offsets c.args.wanted.now.layout.packing (nows c.into_texts.result.items)
          c.in_ok-pool.field-0.pool.items pooled.offset pooled.plan
          (nows c.into_texts.result.items) c.deref-3.result.now (λ s h. h) offsets;
    }

pub lay_bodies-requires-clause-tree : goal.lay_bodies-requires-clause-tree
lay_bodies-requires-clause-tree g c =
    let r = c.requires in
    let t = r.0 in
    let gathered = (c.in_ok-contents.ensures.ok t r.1 r.2).0 in
    let us = c.in_ok-pool.field-0.pool.items in
    let pooled = c.in_ok-pool.ensures.ok in
    let small = (c.in_ok-contents.ensures.ok t r.1 r.2).2 in
    let js = ap nows c.deref.ensures.value
    ∙ (c.in_ok-contents.ensures.ok t c.requires.1 c.requires.2).1.keys in
    let texts = (ap (λ v. nows v.items) c.into_texts.ensures ∙ gathered.texts_are) in
    let pool = pool_room c.args.wanted.now.layout.packing (nows c.into_texts.result.items) us
    pooled.offset pooled.plan in
    let same = ap (sum_by size) texts in (
      t,
      r.1,
      record {
        units = omega (arith, pool, same, units_room (laying_order t), laying_order_long t, small);
        bytes = omega (
          arith,
          pool,
          same,
          bytes_room (laying_order t),
          small,
          ap (λ l. length (key_bytes l)) js,
          used_room (keys_of t) c.args.wanted.now.list.now,
          packed_room c.args.wanted.now.layout.packing
              (used (keys_of t) c.args.wanted.now.list.now),
          length-padded (key_bytes (nows c.deref.result.now)),
          c.block_length-keys_end.ensures,
        );
      },
      _,
      numbered g ((goal.at.lay_bodies-requires-clause-tree g c).After-deref-3) 0 t r.1 r.2,
    )

pub returns-in_err-bodies-clause-err : goal.returns-in_err-bodies-clause-err
returns-in_err-bodies-clause-err g c =
    let p = err_from_is_err_and c.from_residual-in_err-bodies.result
    c.from_residual-in_err-bodies.ensures.1 in
    rw p.1 (λ t f k. subst (RefusesWriting t c.args.wanted.now.list.now) (sym p.2) no_memory)

pub overflow_cast-largest_table : goal.overflow_cast-largest_table
overflow_cast-largest_table g c =
    let t = c.requires.0 in
    let gathered = (c.in_ok-contents.ensures.ok t c.requires.1 c.requires.2).0 in
    let small = (c.in_ok-contents.ensures.ok t c.requires.1 c.requires.2).2 in
    omega (arith, small, gathered.largest_is, largest_room (laying_order t))

pub assemble-requires : goal.assemble-requires
assemble-requires g c =
    let t = c.requires.0 in
    let gathered = (c.in_ok-contents.ensures.ok t c.requires.1 c.requires.2).0 in
    let small = (c.in_ok-contents.ensures.ok t c.requires.1 c.requires.2).2 in
    let js = ap nows c.deref-4.ensures.value
    ∙ (c.in_ok-contents.ensures.ok t c.requires.1 c.requires.2).1.keys in
    let room = c.in_ok-bodies.ensures.fits in
    let k = length-padded (key_bytes (nows c.deref.result.now)) in
    record {
      fits = record {
        keys = omega (
          arith,
          small,
          ap (λ l. length (key_bytes l)) js,
          used_room (keys_of t) c.args.wanted.now.list.now,
          packed_room c.args.wanted.now.layout.packing
              (used (keys_of t) c.args.wanted.now.list.now),
        );
        units = omega (arith, room.units);
        tail = omega (arith, room.bytes);
        whole = omega (arith, room.aligned, k, c.block_length-keys_end.ensures);
      };
    }

pub returns-in_err-assemble-clause-err : goal.returns-in_err-assemble-clause-err
returns-in_err-assemble-clause-err g c =
    let p = err_from_is_err_and c.from_residual-in_err-assemble.result
    c.from_residual-in_err-assemble.ensures.1 in
    rw p.1 (λ t f k. subst (RefusesWriting t c.args.wanted.now.list.now) (sym p.2) no_memory)

pub returns-clause-ok : goal.returns-clause-ok
returns-clause-ok g c = λ t f k.
    let gathered = (c.in_ok-contents.ensures.ok t f k).0 in
    let ks = c.args.wanted.now.list.now in
    let pooled = c.in_ok-pool.ensures.ok in
    let pool = c.in_ok-pool.field-0.pool.items in
    let b = (c.in_ok-contents.ensures.ok t f k).1 in
    let laid = laid_of c.in_ok-bodies.bodies in
    let texts = (ap (λ v. nows v.items) c.into_texts.ensures ∙ gathered.texts_are) in
    let small = (c.in_ok-contents.ensures.ok t f k).2 in
    let end : ℕ = 32 + c.block_length-keys_end.result + 2 *
    (length c.in_ok-bodies.bodies.units.items + length c.in_ok-bodies.bodies.units.items % 2) in
    let room = c.in_ok-bodies.ensures.fits in
    let q = c.args.wanted.now.layout.packing in
    let made : Made q t ks = record {
      pool = pool;
      offset = pooled.offset;
      laid = laid;
      root = c.in_ok-bodies.word;
      utf8 = b.utf8;
      faultless = b.faultless;
      small = small;
      plan = subst (λ S. IsPlanBy q S pool pooled.offset) texts pooled.plan;
      base = end;
      base_is = omega (
        arith,
        c.block_length-keys_end.ensures,
        ap (λ l. length (padded (key_bytes (nows l)))) c.deref.ensures.value,
        ap (λ l. length (padded (key_bytes l))) b.keys,
      );
      lays = c.in_ok-bodies.ensures.lays (record {
        position = key_position_by q t ks;
        offset = pooled.offset;
        base = end;
        packing = q;
      }) t f (numbered g ((goal.at.returns-clause-ok g c).After-deref-3) end t f k) refl refl;
      room = record { aligned = room.aligned; units = room.units; bytes = room.bytes };
      units_fit = c.in_ok-assemble.ensures.fits;
      root_fits = c.in_ok-assemble.ensures.words;
    } in
    let fallback = c.args.wanted.now.is_locale_fallback_enabled in
    let largest = c.in_ok-contents.contents.largest_table in
    let file = c.in_ok-assemble.ensures.file
    ∙ ap (λ l. file_of c.in_ok-bodies.word largest fallback (padded (key_bytes (nows l)))
    (even laid.units) laid.tail) c.deref-4.ensures.value
    ∙ ap (λ l. file_of c.in_ok-bodies.word largest fallback (padded (key_bytes l))
    (even laid.units) laid.tail) b.keys in
    subst (λ bytes. WrittenBy q bytes t fallback ks) (sym file)
    (written q t ks made largest fallback gathered.largest_is)

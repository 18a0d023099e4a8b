use Rattle.std.proofs.Common.{◌≡◌, ◌<◌, ◌^◌, ◌∷◌, List, sym, ◌∙◌, ap, subst, arith, All}
use Rattle.std.specs.List.{sum_by, flat_map}
use Rattle.resb_format.specs.Units.{size}
use Rattle.resb_pool.specs.Plan.{nows}
use Rattle.resb_pool.specs.Pool.{record_units}
use Rattle.resb_pool.specs.Inner.Placing.{IsRecordOf, record_texts}
use Rattle.resb_pool.specs.Inner.Ranked.{saving}
use Rattle.resb_pool.specs.declared.records.Record.{Record}
use Rattle.resb_pool.proofs.Interning.{length-nows}
use Rattle.resb_pool.proofs.Ranking.{kept_each, kept_small, shared_pool}
use Rattle.resb_pool.proofs.shared_pool.lay_saving.Goals as goal
use Rattle.resb_pool.proofs.shared_pool.lay_saving.Goals.{In_ok-kept}

-- the rows that are laid
kept : (c : In_ok-kept) → c.in_ok-kept.kept.items ≡ saving c.args.least c.in_ok-rows.rows.items
kept c = c.in_ok-kept.ensures ∙ ap (saving c.args.least) c.deref.ensures.value

each : (c : In_ok-kept)
    → All (IsRecordOf (nows c.args.texts.now) c.in_ok-rows.ensures.sums) c.in_ok-kept.kept.items
each c =
    let g = c.requires.given in
    let T = nows c.args.texts.now in
    subst (λ (z : List Record). All (IsRecordOf T c.in_ok-rows.ensures.sums) z) (sym (kept c))
    (kept_each c.args.packing g.0 T c.args.measures.now g.2 g.1 c.in_ok-rows.rows.items
    c.in_ok-rows.ensures
    c.args.least)

pub lay-requires-clause-counts : goal.lay-requires-clause-counts
lay-requires-clause-counts c =
    let T = nows c.args.texts.now in
    let all = subst (λ (z : List Record). All (IsRecordOf T c.in_ok-rows.ensures.sums) z)
    (sym c.deref-2.ensures.value) (each (goal.at.lay-requires-clause-counts c).In_ok-kept) in
    λ k d l. (all k d l).units_is

pub lay-requires-clause-within : goal.lay-requires-clause-within
lay-requires-clause-within c =
    let T = nows c.args.texts.now in
    let all = subst (λ (z : List Record). All (IsRecordOf T c.in_ok-rows.ensures.sums) z)
    (sym c.deref-2.ensures.value) (each (goal.at.lay-requires-clause-within c).In_ok-kept) in
    λ k d l. omega (arith, (all k d l).within, length-nows c.args.texts.now)

pub lay-requires-clause-short : goal.lay-requires-clause-short
lay-requires-clause-short c =
    let g = c.requires.given in
    let T = nows c.args.texts.now in
    subst (λ (z : List Record). sum_by size (record_texts T z) < 2 ^ 28)
    (sym (c.deref-2.ensures.value ∙ kept (goal.at.lay-requires-clause-short c).In_ok-kept))
    (kept_small c.args.packing g.0 T c.args.measures.now g.2 g.1 c.in_ok-rows.rows.items
    c.in_ok-rows.ensures
    c.args.least)

pub returns : goal.returns
returns c = λ S small given.
    let T = nows c.args.texts.now in
    let all = c.deref-2.ensures.value ∙ kept (goal.at.returns c).In_ok-kept in
    shared_pool c.args.packing S T c.args.measures.now given small c.in_ok-rows.rows.items
    c.in_ok-rows.ensures
    c.args.least c.in_ok-block.block.units.items
    (c.in_ok-block.ensures.units
    ∙ ap (λ (z : List Record). 0 ∷ flat_map record_units (record_texts T z)) all)

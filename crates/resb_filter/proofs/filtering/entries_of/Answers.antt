use Rattle.std.proofs.Common.{arith, ap, sym, ◌∙◌, ◌+◌, refl, length, Bool, subst}
use Rattle.std.specs.Prelude.{slice_range}
use Rattle.resb_filter.specs.Inner.Entries.{AreEntries}
use Rattle.resb_tree.specs.Tree.{Tree, string, integer}
use Rattle.resb_tree.specs.View.{tree_of}
use Rattle.resb_draft.specs.declared.draft.Piece.TheVariants as piece
use Rattle.resb_draft.proofs.Whole.{whole_inside, whole_is, whole_table, whole_array, found_as}
use Rattle.resb_filter.proofs.TableLemmas.{table_entries, leaf_no_table, no_table}
use Rattle.resb_filter.proofs.filtering.entries_of.Goals as goal

pub index-requires : goal.index-requires
index-requires c = omega (
  arith,
  whole_inside c.args.draft.now c.args.number c.requires,
  c.args.draft.now.pieces.ok.0,
)

pub part_of-keys-requires : goal.part_of-keys-requires
part_of-keys-requires c =
    let d = c.args.draft.now in
    let n = c.args.number in
    let m = c.in-Table.part in
    let k = c.in-Table.first in
    let is = found_as d.pieces.items n c.index.result.now (piece.Table m k) c.index.ensures
    c.in-Table.is in
    omega (arith, (whole_table d n m k is c.requires).keys, ap length c.deref.ensures.value)

pub part_of-values-requires : goal.part_of-values-requires
part_of-values-requires c =
    let d = c.args.draft.now in
    let n = c.args.number in
    let m = c.in-Table.part in
    let k = c.in-Table.first in
    let is = found_as d.pieces.items n c.index.result.now (piece.Table m k) c.index.ensures
    c.in-Table.is in
    omega (
      arith,
      (whole_table d n m k is c.requires).inside,
      ap length c.deref-in-Table.ensures.value,
    )

pub returns-in-String : goal.returns-in-String
returns-in-String c =
    let d = c.args.draft.now in
    let n = c.args.number in
    let s = c.in-String.field-0 in
    let is = found_as d.pieces.items n c.index.result.now (piece.String s) c.index.ensures
    c.in-String.is in
    no_table d n (string s.now)
    (ap (λ (x : Tree × Bool). x.0) (whole_is d n (piece.String s) is c.requires)) refl

pub returns-in-Integer : goal.returns-in-Integer
returns-in-Integer c =
    let d = c.args.draft.now in
    let n = c.args.number in
    let i = c.in-Integer.field-0 in
    let is = found_as d.pieces.items n c.index.result.now (piece.Integer i) c.index.ensures
    c.in-Integer.is in
    no_table d n (integer i)
    (ap (λ (x : Tree × Bool). x.0) (whole_is d n (piece.Integer i) is c.requires)) refl

pub returns-in-Leaf : goal.returns-in-Leaf
returns-in-Leaf c =
    let d = c.args.draft.now in
    let n = c.args.number in
    let r = c.in-Leaf.field-0 in
    let is = found_as d.pieces.items n c.index.result.now (piece.Leaf r) c.index.ensures
    c.in-Leaf.is in
    let e = whole_is d n (piece.Leaf r) is c.requires in
    no_table d n (tree_of r.value) (ap (λ (x : Tree × Bool). x.0) e)
    (leaf_no_table (tree_of r.value) (ap (λ (x : Tree × Bool). x.1) (sym e) ∙ c.requires))

pub returns-in-Array : goal.returns-in-Array
returns-in-Array c =
    let d = c.args.draft.now in
    let n = c.args.number in
    let m = c.in-Array.field-0 in
    let is = found_as d.pieces.items n c.index.result.now (piece.Array m) c.index.ensures
    c.in-Array.is in
    no_table d n _ (whole_array d n m is c.requires).tree refl

pub returns-in_ok-pairs_of-in-Table : goal.returns-in_ok-pairs_of-in-Table
returns-in_ok-pairs_of-in-Table c =
    let d = c.args.draft.now in
    let n = c.args.number in
    let m = c.in-Table.part in
    let k = c.in-Table.first in
    let is = found_as d.pieces.items n c.index.result.now (piece.Table m k) c.index.ensures
    c.in-Table.is in
    subst (AreEntries d n) (sym c.in_ok-pairs_of-in-Table.ensures)
    (table_entries d n m k (whole_table d n m k is c.requires) c.part_of-keys.result.now
    c.part_of-values.result.now
    (c.part_of-keys.ensures ∙ ap (λ l. slice_range l k (k + m.count)) c.deref.ensures.value)
    (c.part_of-values.ensures
    ∙ ap (λ l. slice_range l m.from (m.from + m.count)) c.deref-in-Table.ensures.value))

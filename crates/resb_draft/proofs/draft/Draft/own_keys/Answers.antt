use Rattle.std.proofs.Common.{arith, ap, sym, ◌∙◌, ◌+◌, length}
use Rattle.std.specs.Prelude.{slice_range}
use Rattle.resb_draft.specs.declared.draft.Piece.TheVariants as piece
use Rattle.resb_draft.specs.Drafts.{texts}
use Rattle.resb_draft.proofs.Lists.{texts-part}
use Rattle.resb_draft.proofs.Whole.{whole_inside, whole_table, whole_array, table_keys, found_as}
use Rattle.resb_draft.proofs.Whole.{text_empty, number_empty, piece_empty, array_empty}
use Rattle.resb_draft.proofs.draft.Draft.own_keys.Goals as goal

pub index-requires : goal.index-requires
index-requires c = omega (
  arith,
  whole_inside c.args.self.now c.args.number c.requires,
  c.args.self.now.pieces.ok.0,
)

pub part_of-requires : goal.part_of-requires
part_of-requires c =
    let d = c.args.self.now in
    let n = c.args.number in
    let is = found_as d.pieces.items n c.index.result.now
    (piece.Table c.in-Table.part c.in-Table.first) c.index.ensures c.in-Table.is in
    omega (
      arith,
      (whole_table d n c.in-Table.part c.in-Table.first is c.requires).keys,
      ap length c.deref.ensures.value,
    )

pub returns-in-Table : goal.returns-in-Table
returns-in-Table c =
    let d = c.args.self.now in
    let n = c.args.number in
    let m = c.in-Table.part in
    let k = c.in-Table.first in
    let is = found_as d.pieces.items n c.index.result.now (piece.Table m k) c.index.ensures
    c.in-Table.is in
    ap texts (c.part_of.ensures) ∙ texts-part c.deref.result.now k (k + m.count)
    ∙ ap (λ l. slice_range (texts l) k (k + m.count)) c.deref.ensures.value
    ∙ sym (table_keys d n m k (whole_table d n m k is c.requires))

pub returns-in-String : goal.returns-in-String
returns-in-String c =
    let d = c.args.self.now in
    let is = found_as d.pieces.items c.args.number c.index.result.now
    (piece.String c.in-String.field-0) c.index.ensures c.in-String.is in
    sym (text_empty d c.args.number c.in-String.field-0 is c.requires).1

pub returns-in-Integer : goal.returns-in-Integer
returns-in-Integer c =
    let d = c.args.self.now in
    let is = found_as d.pieces.items c.args.number c.index.result.now
    (piece.Integer c.in-Integer.field-0) c.index.ensures c.in-Integer.is in
    sym (number_empty d c.args.number c.in-Integer.field-0 is c.requires).1

pub returns-in-Leaf : goal.returns-in-Leaf
returns-in-Leaf c =
    let d = c.args.self.now in
    let is = found_as d.pieces.items c.args.number c.index.result.now
    (piece.Leaf c.in-Leaf.field-0) c.index.ensures c.in-Leaf.is in
    sym (piece_empty d c.args.number c.in-Leaf.field-0 is c.requires).1

pub returns-in-Array : goal.returns-in-Array
returns-in-Array c =
    let d = c.args.self.now in
    let m = c.in-Array.field-0 in
    let is = found_as d.pieces.items c.args.number c.index.result.now (piece.Array m)
    c.index.ensures c.in-Array.is in
    sym (array_empty d c.args.number m (whole_array d c.args.number m is c.requires))

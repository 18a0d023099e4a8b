use Rattle.std.proofs.Common.{arith, ap, sym, ◌∙◌, ◌+◌, ◌≡◌}
use Rattle.std.specs.Prelude.{slice_range}
use Rattle.resb_draft.specs.declared.draft.Piece.TheVariants as piece
use Rattle.resb_draft.specs.Drafts.{texts}
use Rattle.resb_draft.proofs.Lists.{part_empty}
use Rattle.resb_draft.proofs.Whole.{whole_inside, whole_table, whole_array, table_keys, found_as}
use Rattle.resb_draft.proofs.Whole.{text_empty, number_empty, piece_empty, array_empty}
use Rattle.resb_draft.proofs.draft.Draft.keys_start.Goals as goal

pub index-requires : goal.index-requires
index-requires c = omega (
  arith,
  whole_inside c.args.self.now c.args.number c.requires.whole,
  c.args.self.now.pieces.ok.0,
)

pub returns-then-from-part-clause-keys : goal.returns-then-from-part-clause-keys
returns-then-from-part-clause-keys c =
    let d = c.args.self.now in
    let n = c.args.number in
    let m = c.in-Table.part in
    let k = c.in-Table.first in
    let is = found_as d.pieces.items n c.index.result.now (piece.Table m k) c.index.ensures
    c.in-Table.is in
    let at : c.args.to ≡ k + m.count = omega (arith, c.if-from-part.true) in
    ap (slice_range (texts d.keys.items) k) at
    ∙ sym (table_keys d n m k (whole_table d n m k is c.requires.whole))

pub returns-in-String-clause-keys : goal.returns-in-String-clause-keys
returns-in-String-clause-keys c =
    let d = c.args.self.now in
    let is = found_as d.pieces.items c.args.number c.index.result.now
    (piece.String c.in-String.field-0) c.index.ensures c.in-String.is in
    part_empty (texts d.keys.items) c.args.to
    ∙ sym (text_empty d c.args.number c.in-String.field-0 is c.requires.whole).1

pub returns-in-Integer-clause-keys : goal.returns-in-Integer-clause-keys
returns-in-Integer-clause-keys c =
    let d = c.args.self.now in
    let is = found_as d.pieces.items c.args.number c.index.result.now
    (piece.Integer c.in-Integer.field-0) c.index.ensures c.in-Integer.is in
    part_empty (texts d.keys.items) c.args.to
    ∙ sym (number_empty d c.args.number c.in-Integer.field-0 is c.requires.whole).1

pub returns-in-Leaf-clause-keys : goal.returns-in-Leaf-clause-keys
returns-in-Leaf-clause-keys c =
    let d = c.args.self.now in
    let is = found_as d.pieces.items c.args.number c.index.result.now
    (piece.Leaf c.in-Leaf.field-0) c.index.ensures c.in-Leaf.is in
    part_empty (texts d.keys.items) c.args.to
    ∙ sym (piece_empty d c.args.number c.in-Leaf.field-0 is c.requires.whole).1

pub returns-in-Array-clause-keys : goal.returns-in-Array-clause-keys
returns-in-Array-clause-keys c =
    let d = c.args.self.now in
    let m = c.in-Array.field-0 in
    let is = found_as d.pieces.items c.args.number c.index.result.now (piece.Array m)
    c.index.ensures c.in-Array.is in
    part_empty (texts d.keys.items) c.args.to
    ∙ sym (array_empty d c.args.number m (whole_array d c.args.number m is c.requires.whole))

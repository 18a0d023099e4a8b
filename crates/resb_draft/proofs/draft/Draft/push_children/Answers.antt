use Rattle.std.proofs.Common.{arith, ap, sym, ◌∙◌, ◌++◌, ◌≡◌, length, map, append-nil}
use Rattle.std.specs.Prelude.{if◌then◌else◌, is_ok, OnOk, Result, Ok, Err}
use Rattle.std.proofs.lemmas.Result.{on_ok_weaker}
use Rattle.resb_draft.specs.declared.draft.Piece.TheVariants as piece
use Rattle.resb_draft.specs.Drafts.{tree_at, is_whole, part}
use Rattle.resb_tree.specs.Borrowing.{all_true}
use Rattle.resb_draft.proofs.InOrder.{trees_more, whole_more}
use Rattle.resb_draft.proofs.Whole.{whole_inside, whole_table, whole_array, found_as}
use Rattle.resb_draft.proofs.Whole.{text_empty, number_empty, piece_empty}
use Rattle.resb_draft.proofs.Whole.{array_children, table_children}
use Rattle.resb_draft.proofs.draft.Draft.push_children.Goals as goal

-- what a list is where a call gave a value, and else
ok_items : {T E X : Type 0} (r : Result T E) (x a b : X) → x ≡ (if is_ok r then a else b)
    → OnOk r (x ≡ a)
ok_items (Ok t) x a b e = e
ok_items (Err e) x a b h = tt

pub index-requires : goal.index-requires
index-requires c = omega (
  arith,
  whole_inside c.args.self.now c.args.number c.requires,
  c.args.self.now.pieces.ok.0,
)

pub part_of-requires : goal.part_of-requires
part_of-requires c =
    let d = c.args.self.now in
    let m = c.in-Array.part in
    let is = found_as d.pieces.items c.args.number c.index.result.now (piece.Array m)
    c.index.ensures c.in-Array.is in
    omega (
      arith,
      (whole_array d c.args.number m is c.requires).inside,
      ap length c.deref.ensures.value,
    )

pub part_of-requires-in-Table : goal.part_of-requires-in-Table
part_of-requires-in-Table c =
    let d = c.args.self.now in
    let m = c.in-Table.part in
    let k = c.in-Table.field-1 in
    let is = found_as d.pieces.items c.args.number c.index.result.now (piece.Table m k)
    c.index.ensures c.in-Table.is in
    omega (
      arith,
      (whole_table d c.args.number m k is c.requires).inside,
      ap length c.deref-in-Table.ensures.value,
    )

pub returns-in-String-clause-trees : goal.returns-in-String-clause-trees
returns-in-String-clause-trees c =
    let d = c.args.self.now in
    let is = found_as d.pieces.items c.args.number c.index.result.now
    (piece.String c.in-String.field-0) c.index.ensures c.in-String.is in
    let seen = map (tree_at d) c.args.pending.now.items in
    sym (append-nil seen)
    ∙ ap (λ l. seen ++ l) (sym (text_empty d c.args.number c.in-String.field-0 is c.requires).0)

pub returns-in-Integer-clause-trees : goal.returns-in-Integer-clause-trees
returns-in-Integer-clause-trees c =
    let d = c.args.self.now in
    let is = found_as d.pieces.items c.args.number c.index.result.now
    (piece.Integer c.in-Integer.field-0) c.index.ensures c.in-Integer.is in
    let seen = map (tree_at d) c.args.pending.now.items in
    sym (append-nil seen)
    ∙ ap (λ l. seen ++ l) (sym (number_empty d c.args.number c.in-Integer.field-0 is c.requires).0)

pub returns-in-Leaf-clause-trees : goal.returns-in-Leaf-clause-trees
returns-in-Leaf-clause-trees c =
    let d = c.args.self.now in
    let is = found_as d.pieces.items c.args.number c.index.result.now
    (piece.Leaf c.in-Leaf.field-0) c.index.ensures c.in-Leaf.is in
    let seen = map (tree_at d) c.args.pending.now.items in
    sym (append-nil seen)
    ∙ ap (λ l. seen ++ l) (sym (piece_empty d c.args.number c.in-Leaf.field-0 is c.requires).0)

pub returns-in-Array-clause-trees : goal.returns-in-Array-clause-trees
returns-in-Array-clause-trees c =
    let d = c.args.self.now in
    let m = c.in-Array.part in
    let is = found_as d.pieces.items c.args.number c.index.result.now (piece.Array m)
    c.index.ensures c.in-Array.is in
    let w = whole_array d c.args.number m is c.requires in
    let more = c.part_of.ensures ∙ ap (λ l. part l m.from m) c.deref.ensures.value in
    on_ok_weaker c.extend_from_slice.result (λ e.
    trees_more d c.args.pending.now.items c.extend_from_slice.new.self.items _ e
    ∙ ap (λ l. map (tree_at d) c.args.pending.now.items ++ l)
    (ap (map (tree_at d)) more ∙ sym (array_children d c.args.number m w)))
    (ok_items c.extend_from_slice.result _ _ _ c.extend_from_slice.ensures.items)

pub returns-in-Array-clause-whole : goal.returns-in-Array-clause-whole
returns-in-Array-clause-whole c =
    let d = c.args.self.now in
    let m = c.in-Array.part in
    let is = found_as d.pieces.items c.args.number c.index.result.now (piece.Array m)
    c.index.ensures c.in-Array.is in
    let w = whole_array d c.args.number m is c.requires in
    let more = c.part_of.ensures ∙ ap (λ l. part l m.from m) c.deref.ensures.value in
    on_ok_weaker c.extend_from_slice.result (λ e h.
    whole_more d c.args.pending.now.items c.extend_from_slice.new.self.items _ e h
    (ap (λ l. all_true (map (is_whole d) l)) more ∙ w.whole))
    (ok_items c.extend_from_slice.result _ _ _ c.extend_from_slice.ensures.items)

pub returns-in-Table-clause-trees : goal.returns-in-Table-clause-trees
returns-in-Table-clause-trees c =
    let d = c.args.self.now in
    let m = c.in-Table.part in
    let k = c.in-Table.field-1 in
    let is = found_as d.pieces.items c.args.number c.index.result.now (piece.Table m k)
    c.index.ensures c.in-Table.is in
    let w = whole_table d c.args.number m k is c.requires in
    let more = c.part_of-in-Table.ensures
    ∙ ap (λ l. part l m.from m) c.deref-in-Table.ensures.value in
    on_ok_weaker c.extend_from_slice-in-Table.result (λ e.
    trees_more d c.args.pending.now.items c.extend_from_slice-in-Table.new.self.items _ e
    ∙ ap (λ l. map (tree_at d) c.args.pending.now.items ++ l)
    (ap (map (tree_at d)) more ∙ sym (table_children d c.args.number m k w)))
    (ok_items c.extend_from_slice-in-Table.result _ _ _
    c.extend_from_slice-in-Table.ensures.items)

pub returns-in-Table-clause-whole : goal.returns-in-Table-clause-whole
returns-in-Table-clause-whole c =
    let d = c.args.self.now in
    let m = c.in-Table.part in
    let k = c.in-Table.field-1 in
    let is = found_as d.pieces.items c.args.number c.index.result.now (piece.Table m k)
    c.index.ensures c.in-Table.is in
    let w = whole_table d c.args.number m k is c.requires in
    let more = c.part_of-in-Table.ensures
    ∙ ap (λ l. part l m.from m) c.deref-in-Table.ensures.value in
    on_ok_weaker c.extend_from_slice-in-Table.result (λ e h.
    whole_more d c.args.pending.now.items c.extend_from_slice-in-Table.new.self.items _ e h
    (ap (λ l. all_true (map (is_whole d) l)) more ∙ w.whole))
    (ok_items c.extend_from_slice-in-Table.result _ _ _
    c.extend_from_slice-in-Table.ensures.items)

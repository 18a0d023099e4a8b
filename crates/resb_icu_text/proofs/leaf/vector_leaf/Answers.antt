use Rattle.std.proofs.Common.{ap, arith, refl, sym, ◌∙◌, []}
use Rattle.resb_tree.specs.Tree.{int_vector}
use Rattle.resb_tree.proofs.ViewLemmas.{tree_of_vector}
use Rattle.resb_icu_text.proofs.LeafLemmas.{empty_vector, vector_stands, leaf_over, leaf_read}
use Rattle.resb_icu_text.proofs.KeptLemmas.{numbers_kept}
use Rattle.resb_icu_text.proofs.QuotaLemmas.{both_taken, taken_over, match_fails}
use Rattle.resb_icu_text.proofs.leaf.vector_leaf.Goals as goal
use Rattle.resb_icu_grammar.specs.declared.group_kind.IcuKind.TheVariants.{IntVector as vector_kind}

pub returns-in_err-take-clause-reads : goal.returns-in_err-take-clause-reads
returns-in_err-take-clause-reads c =
    match_fails _ _ _ c.from_residual.ensures.1
    (leaf_over c.args.at vector_kind c.args.at (int_vector []) _
    (empty_vector _ _ (sym c.byte.ensures.byte ∙ c.if-byte-eq125.true))
    c.in_err-take.ensures (omega arith) refl)

pub returns-then-byte-eq125-clause-reads : goal.returns-then-byte-eq125-clause-reads
returns-then-byte-eq125-clause-reads c =
    leaf_read c.args.at vector_kind c.args.at _ (int_vector [])
    (sym (tree_of_vector _ ∙ ap int_vector c.new.ensures.items))
    (empty_vector _ _ (sym c.byte.ensures.byte ∙ c.if-byte-eq125.true))
    c.in_ok-take.ensures (omega arith) (numbers_kept _ _) (omega arith)
    (c.byte.ensures.inside (omega (arith, c.if-byte-eq125.true)))

pub returns-in_err-to-clause-reads : goal.returns-in_err-to-clause-reads
returns-in_err-to-clause-reads c =
    match_fails _ _ _ c.from_residual-in_err-to.ensures.1 c.in_err-to.ensures.reads

pub returns-in_err-take-2-clause-reads : goal.returns-in_err-take-2-clause-reads
returns-in_err-take-2-clause-reads c =
    let v = c.in_ok-to.ensures.reads in
    match_fails _ _ _ c.from_residual-in_err-take-2.ensures.1
    (leaf_over c.args.at vector_kind c.in_ok-to.to _ _
    (vector_stands _ _ _ _ v.vector)
    (taken_over v.takes c.in_err-take-2.ensures refl) (omega arith) refl)

pub returns-clause-reads : goal.returns-clause-reads
returns-clause-reads c =
    let v = c.in_ok-to.ensures.reads in
    leaf_read c.args.at vector_kind c.in_ok-to.to _ _ (sym (tree_of_vector _))
    (vector_stands _ _ _ _ v.vector)
    (both_taken v.takes c.in_ok-take-2.ensures refl) (omega arith) (numbers_kept _ _) v.order v.fits

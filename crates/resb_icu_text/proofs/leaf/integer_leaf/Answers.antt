use Rattle.std.proofs.Common.{ap, arith, refl, sym, ◌∙◌}
use Rattle.resb_tree.specs.Tree.{integer}
use Rattle.resb_tree.proofs.ViewLemmas.{tree_of_integer}
use Rattle.resb_icu_grammar.specs.declared.group_kind.IcuKind.TheVariants.{Integer as integer_kind}
use Rattle.resb_icu_grammar.specs.Stuck.{no_integer, open_integer}
use Rattle.resb_icu_text.proofs.LeafLemmas.{leaf_fails, leaf_over, leaf_read}
use Rattle.resb_icu_text.proofs.LeafLemmas.{integer_stands, closing_at}
use Rattle.resb_icu_text.proofs.KeptLemmas.{number_kept}
use Rattle.resb_icu_text.proofs.QuotaLemmas.{none_taken, match_fails}
use Rattle.resb_icu_text.proofs.leaf.integer_leaf.Goals as goal

pub returns-in_default-clause-reads : goal.returns-in_default-clause-reads
returns-in_default-clause-reads c =
    leaf_fails c.args.at integer_kind _ _ _ (none_taken _) refl c.new.ensures
    (no_integer c.in_default.ensures.none)

pub returns-in_err-to-clause-reads : goal.returns-in_err-to-clause-reads
returns-in_err-to-clause-reads c =
    let e = c.in_err-to.ensures in
    match_fails _ _ _ c.from_residual.ensures.1
    (leaf_fails c.args.at integer_kind _ _ _ (none_taken _) refl e.is
    (open_integer _ _ _ c.in-Some.ensures.found c.skip-next.ensures.skip e.none))

pub returns-in_err-take-clause-reads : goal.returns-in_err-take-clause-reads
returns-in_err-take-clause-reads c =
    match_fails _ _ _ c.from_residual-in_err-take.ensures.1
    (leaf_over c.args.at integer_kind c.in_ok-to.to _ _
    (integer_stands _ _ _ _ _ c.in-Some.ensures.found
    (closing_at _ _ _ _ c.skip-next.ensures.skip c.in_ok-to.ensures))
    c.in_err-take.ensures refl refl)

pub returns-clause-reads : goal.returns-clause-reads
returns-clause-reads c =
    leaf_read c.args.at integer_kind c.in_ok-to.to _ _
    (sym (tree_of_integer _ ∙ ap integer c.from.ensures.0))
    (integer_stands _ _ _ _ _ c.in-Some.ensures.found
    (closing_at _ _ _ _ c.skip-next.ensures.skip c.in_ok-to.ensures))
    c.in_ok-take.ensures refl (number_kept _ _)
    (omega (arith, c.in-Some.ensures.within.0, c.skip-next.ensures.order, c.in_ok-to.ensures.same))
    (omega (arith, c.in_ok-to.ensures.same, c.in_ok-to.ensures.fits))

use Rattle.std.proofs.Common.{ap, arith, refl, sym, ◌∙◌}
use Rattle.resb_tree.specs.Tree.{alias}
use Rattle.resb_tree.specs.declared.resource.Resource.{Alias}
use Rattle.resb_icu_grammar.specs.declared.group_kind.IcuKind.TheVariants.{Alias as alias_kind}
use Rattle.resb_icu_grammar.specs.Stuck.{no_path, open_alias}
use Rattle.resb_tree.proofs.ViewLemmas.{tree_of_alias}
use Rattle.resb_icu_text.proofs.KeptLemmas.{path_kept}
use Rattle.resb_icu_text.proofs.LeafLemmas.{leaf_fails, told_leaf, leaf_lacks, leaf_over, leaf_read}
use Rattle.resb_icu_text.proofs.LeafLemmas.{alias_stands, closing_at}
use Rattle.resb_icu_text.proofs.QuotaLemmas.{none_taken, match_fails}
use Rattle.resb_icu_text.proofs.leaf.alias_leaf.Goals as goal

pub returns-in_err-found-clause-reads : goal.returns-in_err-found-clause-reads
returns-in_err-found-clause-reads c =
    match_fails _ _ _ c.from_residual.ensures.1
    (told_leaf c.args.at alias_kind _ (none_taken _) refl (no_path _ _)
    c.in_err-found.ensures.reads)

pub returns-in_err-to-clause-reads : goal.returns-in_err-to-clause-reads
returns-in_err-to-clause-reads c =
    let found = c.in_ok-found.ensures.reads in
    let e = c.in_err-to.ensures in
    match_fails _ _ _ c.from_residual-in_err-to.ensures.1
    (leaf_fails c.args.at alias_kind _ _ _ (none_taken _) refl e.is
    (open_alias _ _ _ found.string found.blanks e.none))

pub returns-in_err-take-clause-reads : goal.returns-in_err-take-clause-reads
returns-in_err-take-clause-reads c =
    let found = c.in_ok-found.ensures.reads in
    match_fails _ _ _ c.from_residual-in_err-take.ensures.1
    (leaf_over c.args.at alias_kind c.in_ok-to.to (alias found.said) _
    (alias_stands _ _ _ _ _ found.string
    (closing_at _ _ _ _ found.blanks c.in_ok-to.ensures)) c.in_err-take.ensures
    (omega (arith, c.asked_bytes.ensures, c.length.ensures, found.counted)) refl)

pub returns-in_err-path-clause-reads : goal.returns-in_err-path-clause-reads
returns-in_err-path-clause-reads c =
    match_fails _ _ _ c.from_residual-in_err-path.ensures.1
    (leaf_lacks c.args.at alias_kind _ c.in_ok-take.ensures refl)

pub returns-clause-reads : goal.returns-clause-reads
returns-clause-reads c =
    let found = c.in_ok-found.ensures.reads in
    let said = c.in_ok-path.ensures.says in
    leaf_read c.args.at alias_kind c.in_ok-to.to (Alias c.in_ok-path.path) (alias found.said)
    (sym (tree_of_alias c.in_ok-path.path ∙ ap alias (said.1 found)))
    (alias_stands _ _ _ _ _ found.string
    (closing_at _ _ _ _ found.blanks c.in_ok-to.ensures)) c.in_ok-take.ensures
    (omega (arith, c.asked_bytes.ensures, c.length.ensures, found.counted))
    (path_kept _ _ _ _ found (said.1 found) said.0)
    (omega (arith, found.after, found.order, c.in_ok-to.ensures.same))
    (omega (arith, c.in_ok-to.ensures.same, c.in_ok-to.ensures.fits))

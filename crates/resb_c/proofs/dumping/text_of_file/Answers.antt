use Rattle.std.specs.String.{string_bytes}
use Rattle.std.proofs.lemmas.Result.{err_from_is_err_and}
use Rattle.resb_tree.specs.View.{tree_of}
use Rattle.resb_c.proofs.DumpingLemmas.{no_text_within, is_dump, has_no_dump}
use Rattle.resb_c.proofs.dumping.text_of_file.Goals as goal

pub returns-in_err-bundle-clause-err : goal.returns-in_err-bundle-clause-err
returns-in_err-bundle-clause-err c =
    let e = err_from_is_err_and c.from_residual-in_err-bundle.result
    c.from_residual-in_err-bundle.ensures.1 in
    rw (e.1, e.2) (no_text_within c.args.options.now c.args.file.now _ c.limit.result
    c.limit.ensures c.in_ok-name.ensures.ok.1 c.in_err-bundle.ensures.err)

pub returns-in-Ok-clause-ok : goal.returns-in-Ok-clause-ok
returns-in-Ok-clause-ok c =
    is_dump c.args.options.now c.args.file.now c.in_ok-form.form c.in_ok-form.ensures
    c.in_ok-bundle.bundle c.in_ok-name.name.now c.limit.result c.in_ok-name.ensures.ok.0
    c.limit.ensures c.in_ok-name.ensures.ok.1 c.in_ok-bundle.ensures.ok c.print_by.result
    c.of.result.name.now c.of.result.is_locale_fallback_enabled (tree_of c.of.result.root.now)
    c.print_by.ensures c.of.ensures.name c.of.ensures.fallback c.of.ensures.root
    (string_bytes c.in-Ok.text) c.in-Ok.ensures.exact c.in-Ok.ensures.text c.in-Ok.ensures.within

pub returns-clause-err : goal.returns-clause-err
returns-clause-err c =
    has_no_dump c.args.options.now c.args.file.now c.in_ok-form.form c.in_ok-form.ensures
    c.in_ok-bundle.bundle c.in_ok-name.name.now c.limit.result c.in_ok-name.ensures.ok.0
    c.limit.ensures c.in_ok-name.ensures.ok.1 c.in_ok-bundle.ensures.ok c.print_by.result
    c.of.result.name.now c.of.result.is_locale_fallback_enabled (tree_of c.of.result.root.now)
    c.print_by.ensures c.of.ensures.name c.of.ensures.fallback c.of.ensures.root c.in-Err.e
    c.in-Err.ensures.err

use Rattle.std.proofs.Common.{sym, subst}
use Rattle.std.proofs.lemmas.Result.{IfOk-weaker}
use Rattle.resb_draft.specs.Drafts.{draft_tree}
use Rattle.resb_compile.specs.Compiling.{IsText}
use Rattle.resb_compile.proofs.compiling.Compile.read.Goals as goal

pub returns-in-Plain-clause-ok : goal.returns-in-Plain-clause-ok
returns-in-Plain-clause-ok c =
    IfOk-weaker c.read_plain.result _ _ (λ r h. subst (λ form. IsText form c.args.text.now r.0.name.now
    r.0.is_locale_fallback_enabled (draft_tree r.0.root) r.1.items) (sym c.in-Plain.is) h)
    c.read_plain.ensures.ok

pub returns-in-Icu-clause-ok : goal.returns-in-Icu-clause-ok
returns-in-Icu-clause-ok c =
    IfOk-weaker c.read_icu.result _ _ (λ r h. subst (λ form. IsText form c.args.text.now r.0.name.now
    r.0.is_locale_fallback_enabled (draft_tree r.0.root) r.1.items) (sym c.in-Icu.is) h)
    c.read_icu.ensures.ok

-- The way of compiling is the one with no option.
use Rattle.std.proofs.Common.{subst}
use Rattle.std.proofs.lemmas.Result.{IfOk-weaker, IfErr-weaker}
use Rattle.resb_compile.specs.Compiling.{IsCompiledBy, IsRefusedBy}
use Rattle.resb_program.proofs.sources.compiled.Goals as goal

pub returns-clause-ok : goal.returns-clause-ok
returns-clause-ok c =
    IfOk-weaker c.text.result _ _ (λ v h.
    (subst (λ way. IsCompiledBy way c.args.text.now v.items) c.new.ensures h).compiled)
    c.text.ensures.ok

pub returns-clause-err : goal.returns-clause-err
returns-clause-err c =
    IfErr-weaker c.text.result _ _ (λ e h.
    subst (λ way. IsRefusedBy way c.args.text.now e) c.new.ensures h) c.text.ensures.err

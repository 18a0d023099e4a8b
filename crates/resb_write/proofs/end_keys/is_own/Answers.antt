use Rattle.std.proofs.Common.{◌==◌, length, sym, ◌∙◌, ap}
use Rattle.resb_tree.specs.Keys.{same_text}
use Rattle.resb_layout.specs.CompactKeys.{container}
use Rattle.resb_layout.proofs.KeyEndsLemmas.{length_tells}
use Rattle.resb_write.proofs.EndKeys.{lent_not_own, apart_own}
use Rattle.resb_write.proofs.end_keys.is_own.Goals as goal

pub returns-in-Some : goal.returns-in-Some
returns-in-Some c = λ js place e. let k = c.args.key.now in
    lent_not_own (place k) _ (same_text k (container js k)) (sym c.in-Some.is ∙ e.lent_is)

pub returns-in-None : goal.returns-in-None
returns-in-None c = λ js place e. let k = c.args.key.now in
    ap (λ l. length l == length k) e.container_is ∙ length_tells js k
    ∙ apart_own (place k) (same_text k (container js k)) (sym c.in-None.is ∙ e.lent_is)

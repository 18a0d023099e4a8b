use Rattle.std.proofs.Common.{arith, ◌≡◌, ◌∙◌, sym, subst}
use Rattle.std.specs.Prelude.{IfOk}
use Rattle.std.proofs.lemmas.Iterator.Consumers.{map_from_collect}
use Rattle.std.proofs.lemmas.Iterator.Splits.{YieldsList-from_str_split}
use Rattle.resb_draft.specs.Drafts.{texts}
use Rattle.resb_filter.proofs.LineLemmas.{pieces_some}
use Rattle.resb_filter.proofs.lines.pieces_behind.Goals as goal

pub returns : goal.returns
returns c =
    subst (λ ps. IfOk c.collect.result (λ v. texts v.items ≡ ps))
    (pieces_some c.args.path.now (sym c.is_empty.ensures ∙ c.if-is_empty.false))
    (map_from_collect _ c.collect.ensures.ran (YieldsList-from_str_split 47 c.args.path.now
    (omega arith) c.split.ensures.text c.split.ensures.has_more c.split.ensures.pattern))

use Rattle.std.proofs.Common.{sym, ◌∙◌}
use Rattle.resb_swap.specs.Inner.Seen.{seen}
use Rattle.resb_swap.proofs.CollationLemmas.{begin_inside}
use Rattle.resb_swap.proofs.collation.fill_of.Goals as goal

pub is_collation-requires-clause-inside : goal.is_collation-requires-clause-inside
is_collation-requires-clause-inside c = λ long.
    begin_inside (seen c.args.body) c.args.place (sym c.is_whole.ensures ∙ c.if-is_whole.true)

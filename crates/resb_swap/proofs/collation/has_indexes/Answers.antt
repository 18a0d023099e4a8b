use Rattle.std.proofs.Common.{◌+◌, ◌≤◌, arith, subst, ℕ}
use Rattle.resb_swap.specs.Inner.Seen.{seen}
use Rattle.resb_swap.proofs.CollationLemmas.{data_inside, count_inside}
use Rattle.resb_swap.proofs.collation.has_indexes.Goals as goal

pub header_of-header-requires : goal.header_of-header-requires
header_of-header-requires c = data_inside _ _ c.requires.headed

pub word-count-requires : goal.word-count-requires
word-count-requires c =
    count_inside (seen c.args.body) c.args.place c.header_of-header.result c.requires.headed
    (subst (λ (n : ℕ). c.header_of-header.result + 8 ≤ n) c.word-len.ensures
    c.if-header-len.false) (omega (arith, c.if-header-ne0.false))

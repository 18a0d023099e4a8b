use Rattle.std.proofs.Common.{arith}
use Rattle.resb_swap.specs.Inner.Seen.{seen}
use Rattle.resb_swap.proofs.CollationLemmas.{data_inside, told_count}
use Rattle.resb_swap.proofs.collation.count_of.Goals as goal

pub overflow_add-place : goal.overflow_add-place
overflow_add-place c =
    let e = data_inside (seen c.args.body) c.args.place c.requires.headed in omega (arith, e)

pub header_of-requires : goal.header_of-requires
header_of-requires c = data_inside _ _ c.requires.headed

pub overflow_add-place-2 : goal.overflow_add-place-2
overflow_add-place-2 c =
    let e = told_count (seen c.args.body) c.args.place c.header_of.result c.header_of.ensures.value
    c.requires.headed c.requires.indexed in omega (arith, e)

pub word-requires : goal.word-requires
word-requires c =
    told_count (seen c.args.body) c.args.place c.header_of.result c.header_of.ensures.value
    c.requires.headed c.requires.indexed

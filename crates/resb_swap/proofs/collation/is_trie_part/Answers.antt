use Rattle.std.proofs.Common.{arith}
use Rattle.resb_swap.specs.Inner.Seen.{seen}
use Rattle.resb_swap.proofs.CollationLemmas.{data_inside, told_trie}
use Rattle.resb_swap.proofs.collation.is_trie_part.Goals as goal

pub overflow_add-place : goal.overflow_add-place
overflow_add-place c =
    let e = data_inside (seen c.args.body) c.args.place c.requires.headed in omega (arith, e)

pub overflow_add-place-2 : goal.overflow_add-place-2
overflow_add-place-2 c =
    let e = told_trie (seen c.args.body) c.args.place c.part_at-from.result c.part_at-to.result
    c.part_at-from.ensures.value c.part_at-to.ensures.value c.if-from-to.false c.requires.headed
    c.requires.indexed c.requires.parted in omega (arith, e)

pub is_trie-requires : goal.is_trie-requires
is_trie-requires c =
    told_trie (seen c.args.body) c.args.place c.part_at-from.result c.part_at-to.result
    c.part_at-from.ensures.value c.part_at-to.ensures.value c.if-from-to.false c.requires.headed
    c.requires.indexed c.requires.parted

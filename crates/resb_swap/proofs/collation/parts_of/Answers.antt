use Rattle.std.proofs.Common.{◌<◌, arith, ap, subst, ℕ}
use Rattle.resb_swap.specs.Inner.Seen.{seen}
use Rattle.resb_swap.specs.declared.parts.Parts.{Parts}
use Rattle.resb_swap.proofs.CollationLemmas.{told_four}
use Rattle.resb_swap.proofs.collation.parts_of.Goals as goal

pub overflow_add-trie : goal.overflow_add-trie
overflow_add-trie c =
    let e = told_four (seen c.args.body) c.args.place c.outer_parts-parts.result.table
    (ap (λ (s : Parts). s.table) c.outer_parts-parts.ensures)
    (subst (λ (n : ℕ). c.outer_parts-parts.result.table < n) c.part_at.ensures.value
    c.if-parts-part_at.false) c.requires in omega (arith, e)

pub overflow_add-trie-2 : goal.overflow_add-trie-2
overflow_add-trie-2 c =
    let e = told_four (seen c.args.body) c.args.place c.outer_parts-parts.result.table
    (ap (λ (s : Parts). s.table) c.outer_parts-parts.ensures)
    (subst (λ (n : ℕ). c.outer_parts-parts.result.table < n) c.part_at.ensures.value
    c.if-parts-part_at.false) c.requires in omega (arith, e)

pub trie_units-requires : goal.trie_units-requires
trie_units-requires c =
    let e = told_four (seen c.args.body) c.args.place c.outer_parts-parts.result.table
    (ap (λ (s : Parts). s.table) c.outer_parts-parts.ensures)
    (subst (λ (n : ℕ). c.outer_parts-parts.result.table < n) c.part_at.ensures.value
    c.if-parts-part_at.false) c.requires in omega (arith, e)

pub value_words-requires : goal.value_words-requires
value_words-requires c =
    let e = told_four (seen c.args.body) c.args.place c.outer_parts-parts.result.table
    (ap (λ (s : Parts). s.table) c.outer_parts-parts.ensures)
    (subst (λ (n : ℕ). c.outer_parts-parts.result.table < n) c.part_at.ensures.value
    c.if-parts-part_at.false) c.requires in omega (arith, e)

pub has_wide_values-requires : goal.has_wide_values-requires
has_wide_values-requires c =
    let e = told_four (seen c.args.body) c.args.place c.outer_parts-parts.result.table
    (ap (λ (s : Parts). s.table) c.outer_parts-parts.ensures)
    (subst (λ (n : ℕ). c.outer_parts-parts.result.table < n) c.part_at.ensures.value
    c.if-parts-part_at.false) c.requires in omega (arith, e)

use Rattle.std.proofs.Common.{ap, ◌∙◌, Some}
use Rattle.resb_walk.specs.Inner.Members.{content_of, keyed_members, leaf_tree, members_of}
use Rattle.resb_c.proofs.NamedLemmas.{step_leaf, step_list, step_named}
use Rattle.resb_c.proofs.within.step.Goals as goal

pub returns-in-Ok-Table : goal.returns-in-Ok-Table
returns-in-Ok-Table c = λ s shows.
    let es = keyed_members c.in-Ok-Table.entries in
    step_named c.args.opened.now c.args.resource c.args.name.now es c.named.result
    (c.in-Ok-Table.ensures.ok ∙ ap (λ x. Some (content_of x)) c.in-Ok-Table.field-0-is)
    c.named.ensures s shows

pub returns-in-Ok-List : goal.returns-in-Ok-List
returns-in-Ok-List c = λ s shows.
    step_list c.args.opened.now c.args.resource c.args.name.now (members_of c.in-Ok-List.members)
    c.numbered.result
    (c.in-Ok-List.ensures.ok ∙ ap (λ x. Some (content_of x)) c.in-Ok-List.field-0-is)
    c.numbered.ensures s shows

pub returns-in-Ok-Leaf : goal.returns-in-Ok-Leaf
returns-in-Ok-Leaf c = λ s shows.
    step_leaf c.args.opened.now c.args.resource c.args.name.now (leaf_tree c.in-Ok-Leaf.leaf)
    c.numbered-in-Ok-Leaf.result
    (c.in-Ok-Leaf.ensures.ok ∙ ap (λ x. Some (content_of x)) c.in-Ok-Leaf.field-0-is)
    c.numbered-in-Ok-Leaf.ensures s shows

use Rattle.std.proofs.Common.{◌∙◌}
use Rattle.resb_draft.specs.Drafts.{draft_tree}
use Rattle.resb_filter.specs.Collated.{each_inside}
use Rattle.resb_filter.specs.Inner.Forms.{at_root_by}
use Rattle.resb_filter.proofs.collation.with_collation_forms.Goals as goal

pub returns-clause-tree : goal.returns-clause-tree
returns-clause-tree c =
    c.in_ok-draft.ensures.made.0
    ∙ (λ i. each_inside (at_root_by (λ k. c.in_ok-forms.ensures k i)) (draft_tree c.args.draft))

use Rattle.std.proofs.Common.{◌∙◌, ap, map}
use Rattle.resb_tree.specs.Borrowing.{all_true}
use Rattle.resb_draft.specs.Drafts.{tree_at, is_whole}
use Rattle.resb_draft.proofs.Lists.{map-reverse, all_reverse}
use Rattle.resb_draft.proofs.draft.Draft.in_laying_order.Goals as goal

pub returns-clause-order : goal.returns-clause-order
returns-clause-order c =
    let d = c.args.self.now in
    ap (map (tree_at d)) c.reverse.ensures.items
    ∙ map-reverse (tree_at d) c.push_laid.new.order.items ∙ c.in_ok-push_laid.ensures.order

pub returns-clause-whole : goal.returns-clause-whole
returns-clause-whole c =
    let d = c.args.self.now in
    ap (λ l. all_true (map (is_whole d) l)) c.reverse.ensures.items
    ∙ all_reverse (is_whole d) c.push_laid.new.order.items c.in_ok-push_laid.ensures.whole

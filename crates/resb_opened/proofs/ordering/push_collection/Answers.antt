use Rattle.std.proofs.Common.{◌∙◌, sym, subst, map, refl}
use Rattle.resb_format.specs.Content.{word}
use Rattle.resb_opened.specs.Inner.Pending.{AreCollections}
use Rattle.resb_opened.specs.Ordered.{OrderedEach}
use Rattle.resb_opened.proofs.FoundLemmas.{pends_pushed, pends_left, pushed_kind}
use Rattle.resb_opened.proofs.OrderedLemmas.{pushed, left_out}
use Rattle.resb_opened.proofs.ordering.push_collection.Goals as goal

pub returns-in_ok-push-clause-ordered : goal.returns-in_ok-push-clause-ordered
returns-in_ok-push-clause-ordered c = λ p h.
    pushed p c.args.pending.now.items c.args.at
    (subst (λ is. OrderedEach p (map (λ x. word x) is)) c.in_ok-push.ensures.items h)

pub returns-in_ok-push-clause-kinds : goal.returns-in_ok-push-clause-kinds
returns-in_ok-push-clause-kinds c = λ h.
    subst AreCollections (sym c.in_ok-push.ensures.items)
    (pushed_kind c.args.pending.now.items c.args.at h
    (sym c.is_collection.ensures ∙ c.if-is_collection.true))

pub returns-in_ok-push-clause-found : goal.returns-in_ok-push-clause-found
returns-in_ok-push-clause-found c = λ p.
    pends_pushed p c.args.pending.now.items _ c.args.at c.in_ok-push.ensures.items

pub returns-else-is_collection-clause-ordered : goal.returns-else-is_collection-clause-ordered
returns-else-is_collection-clause-ordered c = λ p h.
    (h, left_out p c.args.at (sym c.is_collection.ensures ∙ c.if-is_collection.false))

pub returns-else-is_collection-clause-found : goal.returns-else-is_collection-clause-found
returns-else-is_collection-clause-found c = λ p.
    pends_left p c.args.pending.now.items c.args.pending.now.items c.args.at refl

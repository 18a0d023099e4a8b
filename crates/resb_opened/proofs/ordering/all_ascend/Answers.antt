use Rattle.std.proofs.Common.{◌∙◌, sym, subst, arith}
use Rattle.std.proofs.lemmas.List.{nil_from_length}
use Rattle.resb_format.specs.Parts.{parts_in}
use Rattle.resb_opened.specs.Inner.Pending.{AreCollections, rest_members}
use Rattle.resb_opened.proofs.FoundLemmas.{pends_first, next_fits, never_spent, last_pending}
use Rattle.resb_opened.proofs.FoundLemmas.{popped_kind}
use Rattle.resb_opened.proofs.OrderedLemmas.{more_pending, none_pending}
use Rattle.resb_opened.proofs.ordering.all_ascend.Goals as goal

pub collections-init : goal.collections-init
collections-init c =
    let p = parts_in c.args.file in
    let put = c.in_ok-push_collection.ensures in
    record {
      ordered = λ new. (put.ordered p new).1;
      kinds = put.kinds (subst AreCollections (sym c.new-pending.ensures.items) tt);
      found = λ o less fits.
          pends_first p c.new-pending.result.items c.push_collection.new.pending.items c.args.root
          c.args.most c.new-walk.result c.new-pending.ensures.items (put.found p) o less
          (rw c.new-walk.ensures fits);
    }

pub returns-in_default-checked_sub-clause-found : goal.returns-in_default-checked_sub-clause-found
returns-in_default-checked_sub-clause-found c = λ o less fits.
    let items = c.in-Some.ensures.items in
    let (os, most, room) = c.collections.invariant.found o less fits in
    absurd (never_spent (parts_in c.args.file) c.collections.pending.items c.pop.new.self.items
    c.in-Some.word c.collections.walk items
    (popped_kind c.pop.new.self.items c.in-Some.word
    (subst AreCollections items c.collections.invariant.kinds)).1
    (os, omega (arith, most, c.in_default-checked_sub.ensures), room))

pub returns-in_default-ordered_inside-clause-found
    : goal.returns-in_default-ordered_inside-clause-found
returns-in_default-ordered_inside-clause-found c = λ o less fits.
    let items = c.in-Some.ensures.items in
    let (rs, last, most, room) = last_pending (parts_in c.args.file) c.collections.pending.items
    c.pop.new.self.items c.in-Some.word c.collections.left c.collections.walk items
    (c.collections.invariant.found o less fits) in
    absurd (c.in_default-ordered_inside.ensures.found last
    (popped_kind c.pop.new.self.items c.in-Some.word
    (subst AreCollections items c.collections.invariant.kinds)).1
    (omega (arith, room)))

pub collections-preserved : goal.collections-preserved
collections-preserved c =
    let p = parts_in c.args.file in
    let items = c.in-Some.ensures.items in
    let kinds = popped_kind c.pop.new.self.items c.in-Some.word
    (subst AreCollections items c.collections.invariant.kinds) in
    record {
      ordered = λ new.
          let (old, inside) = c.in_ok-push_collections.ensures.ordered p new in
          c.collections.invariant.ordered (more_pending p c.collections.pending.items
          c.pop.new.self.items c.in-Some.word items old
          (c.in-Some-ordered_inside.ensures.ordered inside));
      kinds = c.in_ok-push_collections.ensures.kinds kinds.0;
      found = λ o less fits.
          next_fits p c.collections.pending.items c.pop.new.self.items
          c.push_collections.new.pending.items c.in-Some.word c.collections.left
          c.collections.walk c.in-Some-checked_sub.rest c.ordered_inside.new.walk
          (rest_members c.in-Some-ordered_inside.inside) items
          (c.collections.invariant.found o less fits)
          (omega (arith, c.in-Some-checked_sub.ensures))
          (λ last cheap. c.in-Some-ordered_inside.ensures.found last kinds.1 cheap)
          (c.in_ok-push_collections.ensures.found p);
    }

pub returns-clause-ordered : goal.returns-clause-ordered
returns-clause-ordered c = λ _.
    c.collections.invariant.ordered (none_pending (parts_in c.args.file)
    c.collections.pending.items
    (nil_from_length _ (sym c.collections.pending.ok.0 ∙ c.in_default.ensures.cases.0)))

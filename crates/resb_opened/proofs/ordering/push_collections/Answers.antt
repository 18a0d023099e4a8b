use Rattle.std.proofs.Common.{◌∷◌, ◌∙◌, ap, sym, subst}
use Rattle.resb_walk.specs.Inner.Members.{member_of}
use Rattle.resb_opened.specs.Inner.Pending.{rest_members}
use Rattle.resb_opened.specs.Ordered.{Ordered, OrderedEach, ordered_unit, each_none, each_more}
use Rattle.resb_opened.proofs.FoundLemmas.{left_none, left_word, left_unit, left_all}
use Rattle.resb_opened.proofs.ordering.push_collections.Goals as goal

pub members-init : goal.members-init
members-init c = record {
  ordered = λ p h later. (h, later);
  kinds = λ h. h;
  found = λ p. left_none p c.args.pending.now.items (rest_members c.args.inside);
}

pub members-preserved-in_ok-push_collection-in-Word
    : goal.members-preserved-in_ok-push_collection-in-Word
members-preserved-in_ok-push_collection-in-Word c =
    let put = c.in_ok-push_collection-in-Word.ensures in
    record {
      ordered = λ p new later.
          let (old, this) = put.ordered p new in
          c.members.invariant.ordered p old (subst (OrderedEach p) (sym c.in-Some.ensures)
          (each_more (subst (λ m. Ordered p (member_of m)) (sym c.in-Word.is) this) later));
      kinds = λ h. put.kinds (c.members.invariant.kinds h);
      found = λ p.
          left_word p c.args.pending.now.items c.members.pending.items _ c.in-Word.at
          (rest_members c.args.inside) (rest_members c.members.rest)
          (rest_members c.in-Some.later)
          (c.in-Some.ensures
          ∙ ap (λ m. member_of m ∷ rest_members c.in-Some.later) c.in-Word.is)
          (c.members.invariant.found p) (put.found p);
    }

pub members-preserved : goal.members-preserved
members-preserved c = record {
  ordered = λ p new later.
      c.members.invariant.ordered p new (subst (OrderedEach p) (sym c.in-Some.ensures)
      (each_more (subst (λ m. Ordered p (member_of m)) (sym c.in-Unit.is) ordered_unit) later));
  kinds = c.members.invariant.kinds;
  found = λ p.
      left_unit p c.args.pending.now.items c.members.pending.items (member_of c.in-Some.member)
      (rest_members c.args.inside) (rest_members c.members.rest) (rest_members c.in-Some.later)
      c.in-Some.ensures (c.members.invariant.found p);
}

pub returns-clause-ordered : goal.returns-clause-ordered
returns-clause-ordered c = λ p new.
    c.members.invariant.ordered p new
    (subst (OrderedEach p) (sym c.in_default.ensures) each_none)

pub returns-clause-found : goal.returns-clause-found
returns-clause-found c = λ p.
    left_all p c.args.pending.now.items c.members.pending.items (rest_members c.args.inside)
    (rest_members c.members.rest) (c.members.invariant.found p)

-- Pieces that are summed and pieces still to come, from round to round.
use Rattle.std.proofs.Common.{ℕ, List, [], ◌∷◌, ◌++◌, ◌≡◌, ◌+◌, ◌-◌, ◌≤◌, inl, inr, Some, None}
use Rattle.std.proofs.Common.{refl, sym, ap, ◌∙◌, subst, arith, length, length-append}
use Rattle.std.proofs.Common.{append_assoc, append-nil}
use Rattle.std.proofs.lemmas.List.Sums.{sum_by-cons, sum_by-append}
use Rattle.resb_format.specs.Parts.{Parts}
use Rattle.resb_format.specs.Content.{Member, list, entry_list}
use Rattle.resb_format.proofs.Denoting.{same_list, same_entries, list_entries}
use Rattle.resb_walk.specs.Inner.Counting.{AreLastMembers, HasLast, KeepsOuter}
use Rattle.resb_walk.specs.Inner.Members.{members_of, keyed_members, rest_length, member_of}
use Rattle.resb_walk.specs.Inner.Weighing.{RestHolds, IsEndOf, ToCome, WaitingPieces, waits_none}
use Rattle.resb_walk.specs.Inner.Weighing.{waits_more, Looked, TakenPieces, EnteredPieces, Weighing}
use Rattle.resb_walk.specs.Pieces.{Piece, Holds, HoldsMember}
use Rattle.resb_walk.specs.Sums.{AddsUp, resource_count_in, count_of}
use Rattle.resb_walk.specs.declared.count.Inner.{Inner}
use Rattle.resb_walk.specs.declared.count.Outer.{Outer}
use Rattle.resb_walk.specs.declared.members.Member.{Member as Stood}
use Rattle.resb_walk.specs.declared.members.Rest.{Rest}
use Rattle.resb_walk.specs.declared.members.Rest.TheVariants as rest
use Rattle.resb_walk.specs.declared.sums.Sums.{Sums}
use Rattle.resb_walk.proofs.Lists.{last_of}

-- resources of two lists
count_both : (xs ys : List Piece) → count_of (xs ++ ys) ≡ count_of xs + count_of ys
count_both xs ys = sum_by-append resource_count_in xs ys

module _ (p : Parts) where
  -- a collection has as many members as are to come of it
  pub end_has : (r : Rest) (w k : ℕ) → k ≡ rest_length r → IsEndOf p r w → HasLast p w k
  end_has (rest.List ms) w k e h =
      inl (
        h.0 ++ members_of ms,
        h.1,
        omega (arith, e, length-append h.0 (members_of ms)),
      )
  end_has (rest.Table es) w k e h =
      inr (
        h.0 ++ keyed_members es,
        h.1,
        omega (arith, e, length-append h.0 (keyed_members es)),
      )

  -- what is still to come of it, found anew
  pub end_again : (r s : Rest) (w k : ℕ) (xs : List Piece) → k ≡ rest_length r → IsEndOf p r w
      → RestHolds p r xs → AreLastMembers p w k s → IsEndOf p s w × RestHolds p s xs
  end_again (rest.List ms) (rest.List ns) w k xs e h g f =
      let same : f.0 ≡ h.0 ++ members_of ms = same_list f.1 h.1 in
      let last : members_of ns ≡ members_of ms =
      f.2 ∙ last_of h.0 (members_of ms) f.0 k e same in (
        (h.0, h.1 ∙ ap (λ ls. Some (list (h.0 ++ ls))) (sym last)),
        rw (← last) at g,
      )
  end_again (rest.Table es) (rest.Table fs) w k xs e h g f =
      let same : f.0 ≡ h.0 ++ keyed_members es = same_entries f.1 h.1 in
      let last : keyed_members fs ≡ keyed_members es =
      f.2 ∙ last_of h.0 (keyed_members es) f.0 k e same in (
        (h.0, h.1 ∙ ap (λ ls. Some (entry_list (h.0 ++ ls))) (sym last)),
        rw (← last) at g,
      )
  end_again (rest.List ms) (rest.Table es) w k xs e h g f = absurd (list_entries h.1 f.1)
  end_again (rest.Table es) (rest.List ms) w k xs e h g f = absurd (list_entries f.1 h.1)

  -- one more collection that waits, at the inner end
  pub waits_push : (c : Outer) (r : Rest) (xs : List Piece) {cs : List Outer} {ys : List Piece}
      → c.left ≡ rest_length r → IsEndOf p r c.word → RestHolds p r xs → WaitingPieces p cs ys
      → WaitingPieces p (cs ++ c ∷ []) (xs ++ ys)
  waits_push c r xs e h g waits_none =
      subst (λ zs. WaitingPieces p (c
      ∷ []) zs) (sym (append-nil xs)) (waits_more xs r e h g waits_none)
  waits_push c r xs e h g (waits_more {c = d} {cs = ds} {ys = zs} ys s f i j w) =
      subst (λ us. WaitingPieces p (d ∷ (ds ++ c ∷ [])) us) (append_assoc xs zs ys)
      (waits_more ys s f i j (waits_push c r xs e h g w))

  pub record Popped (cs : List Outer) (c : Outer) (zs : List Piece) : Type 0 where
    pub still : Rest
    pub inner : List Piece
    pub outer : List Piece
    pub split : zs ≡ inner ++ outer
    pub left_is : c.left ≡ rest_length still
    pub ends : IsEndOf p still c.word
    pub holds : RestHolds p still inner
    pub waiting : WaitingPieces p cs outer

  -- the innermost one
  pub waits_pop : (cs : List Outer) (c : Outer) (zs : List Piece)
      → WaitingPieces p (cs ++ c ∷ []) zs
      → Popped cs c zs
  waits_pop [] c zs (waits_more xs r e h g waits_none) = record {
    still = r;
    inner = xs;
    outer = [];
    split = sym (append-nil xs);
    left_is = e;
    ends = h;
    holds = g;
    waiting = waits_none;
  }
  waits_pop (d ∷ cs) c zs (waits_more {ys = ys'} xs r e h g w) =
      let i = waits_pop cs c ys' w in record {
        still = i.still;
        inner = i.inner;
        outer = i.outer ++ xs;
        split = ap (λ us. us ++ xs) i.split ∙ append_assoc i.inner i.outer xs;
        left_is = i.left_is;
        ends = i.ends;
        holds = i.holds;
        waiting = waits_more xs r e h g i.waiting;
      }

  pub waits_empty : (zs : List Piece) → WaitingPieces p [] zs → zs ≡ []
  waits_empty zs waits_none = refl

  -- a member without members is summed
  pub enters_leaf : (ys ts us zs : List Piece) (cs : List Outer) (i : Inner) (s : Sums)
      → Looked p ys zs None s → ToCome p i ts → WaitingPieces p cs us
      → EnteredPieces p (ys ++ (ts ++ us)) zs cs cs i s
  enters_leaf ys ts us zs cs i s h come w = record {
    new = ys;
    inner = ts;
    outer = us;
    split = refl;
    paid = omega (arith, h.0, count_both ys (ts ++ us));
    sums = h.1;
    to_come = come;
    waiting = w;
    one_more = omega arith;
  }

  -- one with members is the innermost collection
  pub enters_collection : (ys ts us zs : List Piece) (cs ds : List Outer) (i j : Inner) (c : Outer)
      (s : Sums)
      → Looked p ys zs (Some j) s → ToCome p i ts → WaitingPieces p cs us
      → KeepsOuter i c → ds ≡ cs ++ c ∷ [] → EnteredPieces p (ys ++ (ts ++ us)) zs cs ds j s
  enters_collection ys ts us zs cs ds i j c s h come w keeps more =
      let x = h.0 in
      let rest = h.1 in
      let whole : x ∷ rest ++ (ts ++ us) ≡ ys ++ (ts ++ us) = ap (λ vs. vs ++ (ts ++ us)) (sym h.2)
      in
      let paid : count_of (x ∷ rest ++ (ts ++ us)) ≡ count_of (ys ++ (ts ++ us)) = ap count_of whole
      in record {
        new = x ∷ [];
        inner = rest;
        outer = ts ++ us;
        split = whole;
        paid = omega (arith, paid, sum_by-cons resource_count_in x (rest ++ (ts ++ us)), h.3);
        sums = h.4;
        to_come = h.5;
        waiting =
            subst (λ es. WaitingPieces p es (ts ++ us)) (sym more)
            (waits_push c i.rest ts keeps.1
            (subst (λ v. IsEndOf p i.rest v) (sym keeps.0) come.ends) come.holds w);
        one_more = omega (arith, ap length more, length-append cs (c ∷ []));
      }

  -- the root is a collection
  pub weighing_first : (root left : ℕ) (xs : List Piece) (i : Inner) (s : Sums) (cs : List Outer)
      → cs ≡ [] → Holds p root xs → count_of xs ≡ left → Looked p xs [] (Some i) s
      → Weighing p root cs i s left
  weighing_first root left xs i s cs none h many l =
      let whole : xs ≡ l.0 ∷ (l.1 ++ []) = l.2 ∙ ap (λ ys. l.0 ∷ ys) (sym (append-nil l.1)) in
      subst (λ ds. Weighing p root ds i s left) (sym none) (record {
        done = l.0 ∷ [];
        inner = l.1;
        outer = [];
        whole = subst (Holds p root) whole h;
        sums = l.4;
        to_come = l.5;
        waiting = waits_none;
        left_is =
            omega (
              arith,
              many,
              ap count_of whole,
              sum_by-cons resource_count_in l.0 (l.1
                  ++ []),
              l.3,
            );
      })

  module _ (root : ℕ) (cs : List Outer) (i : Inner) (s : Sums) (left : ℕ)
      (h : Weighing p root cs i s left) where
    -- a member is taken and entered
    pub record Took (m : Member) (j : Inner) (t : Sums) : Type 0 where
      pub done : List Piece
      pub member : List Piece
      pub inner : List Piece
      pub outer : List Piece
      pub whole : Holds p root (done ++ (member ++ (inner ++ outer)))
      pub sums : AddsUp t done
      pub holds : HoldsMember p m member
      pub to_come : ToCome p j inner
      pub waiting : WaitingPieces p cs outer
      pub left_is : left ≡ count_of (member ++ (inner ++ outer)) + 1
      pub one : 1 ≤ left

    pub weighing_takes : (m : Stood) (j : Inner) (t : Sums)
        → TakenPieces p h.inner h.done (Some (m, j)) t → Took (member_of m) j t
    weighing_takes m j t n =
        let ks = n.0 in
        let ys = n.1 in
        let ts = n.2 in
        let us = h.outer in
        let inner : h.inner ++ us ≡ ks ++ (ys ++ (ts ++ us)) =
        ap (λ vs. vs ++ us) n.3 ∙ append_assoc ks (ys ++ ts) us
        ∙ ap (λ vs. ks ++ vs) (append_assoc ys ts us) in
        let whole : h.done ++ (h.inner ++ us) ≡ (h.done ++ ks) ++ (ys ++ (ts ++ us)) =
        ap (λ vs. h.done ++ vs) inner ∙ sym (append_assoc h.done ks (ys ++ (ts ++ us))) in
        let counts = ap count_of inner in
        let left_is : left ≡ count_of (h.inner ++ us) + 1 = h.left_is in record {
          done = h.done ++ ks;
          member = ys;
          inner = ts;
          outer = us;
          whole = subst (Holds p root) whole h.whole;
          sums = n.5;
          holds = n.6;
          to_come = n.7;
          waiting = h.waiting;
          left_is = omega (arith, left_is, counts, count_both ks (ys ++ (ts ++ us)), n.4);
          one = omega (arith, left_is);
        }

    pub weighing_enters : (m : Member) (j k : Inner) (t u : Sums) (ds : List Outer)
        → (took : Took m j t)
        → EnteredPieces p (took.member ++ (took.inner ++ took.outer)) took.done cs ds k u
        → Weighing p root ds k u (left - 1)
    weighing_enters m j k t u ds took e =
        let whole : took.done ++ (took.member ++ (took.inner ++ took.outer))
        ≡ (took.done ++ e.new) ++ (e.inner ++ e.outer) =
        ap (λ vs. took.done ++ vs) (sym e.split)
        ∙ sym (append_assoc took.done e.new (e.inner ++ e.outer)) in
        let left_is : left ≡ count_of (took.member ++ (took.inner ++ took.outer)) + 1 =
        took.left_is in
        let paid : count_of (e.inner ++ e.outer) + 1
        ≡ count_of (took.member ++ (took.inner ++ took.outer)) = e.paid in record {
          done = took.done ++ e.new;
          inner = e.inner;
          outer = e.outer;
          whole = subst (Holds p root) whole took.whole;
          sums = e.sums;
          to_come = e.to_come;
          waiting = e.waiting;
          left_is = omega (arith, left_is, paid);
        }

    -- no member is left, and a collection waits
    pub weighing_waits : (c : Outer) (ds : List Outer) → cs ≡ ds ++ c ∷ [] → Popped ds c h.outer
    weighing_waits c ds e = waits_pop ds c h.outer
        (subst (λ es. WaitingPieces p es h.outer) e h.waiting)

    pub weighing_again : (t : Sums) (c : Outer) (ds : List Outer) (r : Rest)
        → TakenPieces p h.inner h.done None t → cs ≡ ds ++ c ∷ [] → AreLastMembers p c.word c.left r
        → Weighing p root ds (record { word = c.word; rest = r }) t left
    weighing_again t c ds r n e again =
        let q = weighing_waits c ds e in
        let found = end_again q.still r c.word c.left q.inner q.left_is q.ends q.holds again in
        let same : h.inner ++ h.outer ≡ q.inner ++ q.outer = ap (λ vs. vs ++ h.outer) n.0 ∙ q.split
        in
        let counts = ap count_of same in
        let left_is : left ≡ count_of (h.inner ++ h.outer) + 1 = h.left_is in record {
          done = h.done;
          inner = q.inner;
          outer = q.outer;
          whole = subst (λ vs. Holds p root (h.done ++ vs)) same h.whole;
          sums = n.1;
          to_come = record { ends = found.0; holds = found.1 };
          waiting = q.waiting;
          left_is = omega (arith, left_is, counts);
        }

    -- nothing is left
    pub weighing_ends : (t : Sums) → TakenPieces p h.inner h.done None t → cs ≡ []
        → (xs : List Piece) × Holds p root xs × AddsUp t xs
    weighing_ends t n e =
        let none = waits_empty h.outer (subst (λ es. WaitingPieces p es h.outer) e h.waiting) in
        let same : h.done ++ (h.inner ++ h.outer) ≡ h.done =
        ap (λ vs. h.done ++ vs) (ap (λ vs. vs ++ h.outer) n.0 ∙ none) ∙ append-nil h.done in
        (h.done, subst (Holds p root) same h.whole, n.1)

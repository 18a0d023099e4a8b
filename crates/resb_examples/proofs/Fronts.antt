-- Entries taken one by one: the front of all of them, and what follows where one is refused or none
-- is left.
use Rattle.std.proofs.Common.{ℕ, List, [], ◌∷◌, ◌++◌, ◌≡◌, ◌+◌, ◌≤◌, ◌<◌, inl, inr, Option, Some}
use Rattle.std.proofs.Common.{None, length, length-append, refl, sym, ap, subst, ◌∙◌, append_assoc}
use Rattle.std.proofs.Common.{arith}
use Rattle.std.specs.List.{All}
use Rattle.std.proofs.lemmas.List.Elements.{All-append, All-nil}
use Rattle.resb.specs.Places.{Place}
use Rattle.resb_examples.specs.Zones.{IsNamed, IsReadable, IsLastNamed}
use Rattle.resb_examples.specs.Inner.Fields.{TakesNamed, LastSoFar, HasTaken, FieldsFront}
use Rattle.resb_examples.specs.declared.zones.fields.Fields.{Fields}
use Rattle.resb_examples.proofs.Lists.{All-one, at_front}

module _ (name : List ℕ) where
  -- where no entry has the name there is no last one
  pub none_is_last : (places : List (Place × Place)) (q : Place)
      → All (λ e. IsNamed name e → ⊥) places → IsLastNamed name places q → ⊥
  none_is_last places q none l =
      at_front (λ e. IsNamed name e
      → ⊥) l.before (
        l.key,
        q,
      ) l.after (subst (All (λ e. IsNamed name e → ⊥)) l.are none) l.named

  module _ {X : Type 0} (reads : Place → X → ℕ
      → Type 0) (ps : List (Place × Place)) (e : Place × Place) where
    not_named : (old : Option X) → LastSoFar name reads ps old → (IsNamed name e → ⊥)
        → LastSoFar name reads (ps ++ e ∷ []) old
    not_named None none other =
        All-append (λ e. IsNamed name e
        → ⊥) ps (e ∷ []) none (All-one (λ e. IsNamed name e → ⊥) e other)
    not_named (Some x) (q, l, k, r) other = (
      q,
      record {
        before = l.before;
        key = l.key;
        after = l.after ++ e ∷ [];
        are = ap (λ s. s ++ e ∷ []) l.are ∙ append_assoc l.before ((l.key, q) ∷ l.after) (e ∷ []);
        named = l.named;
        last =
            All-append (λ e. IsNamed name e
            → ⊥) l.after (e ∷ []) l.last (All-one (λ e. IsNamed name e → ⊥) e other);
      },
      k,
      r,
    )

    last_one : IsNamed name e → IsLastNamed name (ps ++ e ∷ []) e.1
    last_one named =
        record {
          before = ps;
          key = e.0;
          after = [];
          are = refl;
          named = named;
          last = All-nil (λ e. IsNamed name e → ⊥);
        }

    -- the last one so far, with one entry more
    pub last_more : (old new : Option X) → LastSoFar name reads ps old
        → TakesNamed name reads e old new
        → LastSoFar name reads (ps ++ e ∷ []) new
    last_more old new h (inl (named, x, k, r, same)) =
        subst (LastSoFar name reads (ps ++ e ∷ [])) (sym same)
        (e.1, last_one named, k, r)
    last_more old new h (inr (other, same)) =
        subst (LastSoFar name reads (ps ++ e ∷ [])) (sym same) (not_named old h other)

module _ (all : List (Place × Place)) (e : Place × Place) (rest : List (Place × Place)) (f : Fields)
    (before left : ℕ) (front : FieldsFront all (e ∷ rest) f before left) where
  pub here : (P : Place × Place → Type 0) → All P all → P e
  here P h = at_front P front.done e rest (subst (All P) front.are h)

  pub front_takes : (g : Fields) (left' : ℕ) → HasTaken e f g → left' + 1 ≡ left
      → FieldsFront all rest g before left'
  front_takes g left' t sum =
      let paid : left + length front.done ≡ before = front.paid in
      let here_too : All IsReadable (e ∷ []) = All-one IsReadable e t.readable in
      let long : length (front.done ++ e ∷ []) ≡ length front.done + 1 =
      length-append front.done (e ∷ []) in
      record {
        done = front.done ++ e ∷ [];
        are = front.are ∙ sym (append_assoc front.done (e ∷ []) rest);
        seen = record {
          each = All-append IsReadable front.done (e ∷ []) front.seen.each here_too;
          base = last_more _ _ front.done e f.base g.base front.seen.base t.base;
          pairs = last_more _ _ front.done e f.pairs g.pairs front.seen.pairs t.pairs;
        };
        paid = omega arith;
      }

  pub readable_front_fails : (left' : ℕ) → left' ≤ left → (IsReadable e → left ≡ 0)
      → (left' ≤ before) × (All IsReadable all → before < length all)
  readable_front_fails left' falls spent =
      let paid : left + length front.done ≡ before = front.paid in (
        omega arith,
        λ each.
            let none : left ≡ 0 = spent (here IsReadable each) in
            let long : length all ≡ length front.done + length (e ∷ rest) = ap length front.are
            ∙ length-append front.done (e ∷ rest) in
            omega arith,
      )

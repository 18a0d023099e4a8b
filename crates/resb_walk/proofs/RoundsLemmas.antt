-- The rounds of the reader.
use Rattle.std.proofs.Common.{inl, inr, ◌⊎◌, ℕ, List, [], ◌∷◌, ◌++◌, ◌≡◌, ◌≤◌, ◌+◌, refl, sym}
use Rattle.std.proofs.Common.{subst, arith, Result, Ok, Err, ◌*◌, ◌<◌, length, ap}
use Rattle.std.proofs.lemmas.List.{length-append}
use Rattle.resb_tree.specs.Tree.{Tree}
use Rattle.resb_format.specs.Parts.{Parts}
use Rattle.resb_format.specs.Content.{Member, word}
use Rattle.resb_format.specs.Denotes.{Den, DenMember, Reaches, ReachesMember}
use Rattle.resb_format.specs.Error.{IsWantOfMemory}
use Rattle.resb_walk.specs.Inner.Frames.{Opened, Waits, Fills}
use Rattle.resb_walk.specs.Inner.Rounds.{PutsOrOpens, PutsMember}
use Rattle.resb_walk.specs.Refusals.{DenotesNothing, Refuses, IsFault}
use Rattle.resb_walk.specs.declared.frame.Open.{Open}
use Rattle.resb_walk.specs.declared.frame.Waiting.{Waiting}
use Rattle.resb_format.specs.declared.error.ReadingError.{ReadingError}
use Rattle.resb_walk.proofs.Waits.{waits_refused}
use Rattle.resb_walk.proofs.Chain.{Chain, chain_none, chain_push, chain_pop, chain_empty}
use Rattle.resb_walk.proofs.Chain.{chain_refused, Round, Popped}

-- a word is said by the member that it is
pub same_word : {v w : ℕ} → word v ≡ word w → v ≡ w
same_word e = cc

module _ {L T : Type 0} (lists : L → List Tree → Type 0)
    (tables : T → List (List ℕ × Tree) → Type 0) (p : Parts) where
  pub round_first : (root before left w : ℕ) (fs : List (Waiting L T)) (f : Open L T) → fs ≡ []
      → word root ≡ word w → Opened lists tables p f w 0 → left + 1 ≡ before
      → Round lists tables p root before fs f left
  round_first root before left w fs f none e h s =
      subst (λ gs. Round lists tables p root before gs f left) (sym none) (record {
        place = root;
        outer = 0;
        inner = 0;
        chain = chain_none;
        opened = subst (λ v. Opened lists tables p f v 0) (sym (same_word e)) h;
        paid = omega arith;
      })

  -- a member that is put in is entered
  pub put_enters : (g : Waiting L T) (x : Member) (w n : ℕ) (fs : List (Waiting L T))
      (left left' : ℕ) (r : Result (Open L T) ReadingError) → left' + 1 ≡ left
      → PutsMember lists tables p w (n + 1) r
      → PutsOrOpens lists tables p g x w n fs fs left left' r
  put_enters g x w n fs left left' (Ok o) s h = (s, inl (refl, h))
  put_enters g x w n fs left left' (Err e) s h = (omega (arith, s), inl h)

  -- to enter a member is a step towards the end
  pub enters_falls : (g : Waiting L T) (x : Member) (o : Open L T) (w n : ℕ)
      (fs gs : List (Waiting L T)) (left left' : ℕ)
      → PutsOrOpens lists tables p g x w n fs gs left left' (Ok o)
      → 2 * left' + length gs < 2 * left + length fs
  enters_falls g x o w n fs gs left left' (s, inl (same, put)) =
      let long = ap length same in omega (arith, s, long)
  enters_falls g x o w n fs gs left left' (s, inr (more, v, is_word, begun)) =
      let long = ap length more in omega (arith, s, long, length-append fs (g ∷ []))

  module _ (root before : ℕ) (fs : List (Waiting L T)) (f : Open L T) (left : ℕ)
      (round : Round lists tables p root before fs f left) where
    -- at most the budget is left
    pub round_falls : left ≤ before
    round_falls =
        let paid : left + (round.outer + (1 + round.inner)) ≡ before = round.paid in omega arith

    -- the root itself was paid for
    pub round_takes : left + 1 ≤ before
    round_takes =
        let paid : left + (round.outer + (1 + round.inner)) ≡ before = round.paid in omega arith

    -- members of it are read where they stand
    pub round_fills : (g : Open L T) (left' : ℕ) → Fills lists tables p f left g left'
        → Round lists tables p root before fs g left'
    round_fills g left' fills =
        let paid : left + (round.outer + (1 + round.inner)) ≡ before = round.paid in
        let filled = fills round.place round.inner round.opened in
        let sum : left' + filled.0 ≡ left = filled.2 in
        record {
          place = round.place;
          outer = round.outer;
          inner = round.inner + filled.0;
          chain = round.chain;
          opened = filled.1;
          paid = omega arith;
        }

    -- memory is wanted, or the innermost collection has a fault of its own
    pub round_stuck : (d : ReadingError)
        → IsWantOfMemory d ⊎ (IsFault d × ((k : ℕ)
        → DenotesNothing (Den p round.place) (Reaches p round.place) (k + (1 + round.inner))))
        → Refuses (Den p root) (Reaches p root) before d
    round_stuck d (inl memory) = inl memory
    round_stuck d (inr (is_fault, s)) =
        let paid : left + (round.outer + (1 + round.inner)) ≡ before = round.paid in
        let sum : left + (1 + round.inner) + round.outer ≡ before = omega arith in
        chain_refused lists tables p (left + (1 + round.inner)) before d round.chain sum
        (inr (inr (is_fault, s left)))

    -- its member is refused
    pub round_refused : (g : Waiting L T) (x : Member) (d : ReadingError)
        → Waits lists tables p g round.place x round.inner
        → Refuses (DenMember p x) (ReachesMember p x) left d
        → Refuses (Den p root) (Reaches p root) before d
    round_refused g x d h r =
        let paid : left + (round.outer + (1 + round.inner)) ≡ before = round.paid in
        let sum : left + (1 + round.inner) + round.outer ≡ before = omega arith in
        chain_refused lists tables p (left + (1 + round.inner)) before d round.chain sum
        (waits_refused lists tables p g round.place round.inner left
        (left + (1 + round.inner)) x d h refl r)

    -- its member is put in
    round_puts : (g : Open L T) (left' : ℕ)
        → Opened lists tables p g round.place (round.inner + 1) → left' + 1 ≡ left
        → Round lists tables p root before fs g left'
    round_puts g left' h s =
        let paid : left + (round.outer + (1 + round.inner)) ≡ before = round.paid in
        record {
          place = round.place;
          outer = round.outer;
          inner = round.inner + 1;
          chain = round.chain;
          opened = h;
          paid = omega arith;
        }

    -- its member is a collection
    round_begins : (g : Waiting L T) (i : Open L T) (w left' : ℕ) (gs : List (Waiting L T))
        → gs ≡ fs ++ g ∷ [] → Waits lists tables p g round.place (word w) round.inner
        → Opened lists tables p i w 0 → left' + 1 ≡ left
        → Round lists tables p root before gs i left'
    round_begins g i w left' gs e h o s =
        let paid : left + (round.outer + (1 + round.inner)) ≡ before = round.paid in
        subst (λ hs. Round lists tables p root before hs i left') (sym e) (record {
          place = w;
          outer = round.outer + (1 + round.inner);
          inner = 0;
          chain = chain_push lists tables p g w round.inner round.chain h;
          opened = o;
          paid = omega arith;
        })

    -- its member is entered
    pub round_enters : (g : Waiting L T) (x : Member) (o : Open L T) (gs : List (Waiting L T))
        (left' : ℕ)
        → Waits lists tables p g round.place x round.inner
        → PutsOrOpens lists tables p g x round.place round.inner fs gs left left' (Ok o)
        → Round lists tables p root before gs o left'
    round_enters g x o gs left' h (s, inl (same, put)) =
        subst (λ hs. Round lists tables p root before hs o left') (sym same)
        (round_puts o left' put s)
    round_enters g x o gs left' h (s, inr (more, w, is_word, begun)) =
        round_begins g o w left' gs more
        (subst (λ m. Waits lists tables p g round.place m round.inner) is_word h) begun s

    -- it is the root, and ends
    pub round_last : (t : Tree) → fs ≡ [] → Den p round.place t (1 + round.inner)
        → (n : ℕ) × Den p root t n × (left + n ≡ before)
    round_last t none d =
        let paid : left + (round.outer + (1 + round.inner)) ≡ before = round.paid in
        let both = chain_empty lists tables p root round.place round.outer
        (subst (λ gs. Chain lists tables p root gs round.place round.outer) none round.chain) in
        let zero : round.outer ≡ 0 = both.1 in
        (1 + round.inner, subst (λ w. Den p w t (1 + round.inner)) (sym both.0) d, omega arith)

    -- it ends: the collection outside it
    pub round_outer : (g : Waiting L T) (gs : List (Waiting L T)) → fs ≡ gs ++ g ∷ []
        → Popped lists tables p root gs g round.place round.outer
    round_outer g gs e =
        chain_pop lists tables p root round.place round.outer gs g
        (subst (λ hs. Chain lists tables p root hs round.place round.outer) e round.chain)

    pub round_closes : (g : Waiting L T) (gs : List (Waiting L T)) (o : Open L T)
        (r : Popped lists tables p root gs g round.place round.outer)
        → Opened lists tables p o r.place (r.inner + (1 + round.inner))
        → Round lists tables p root before gs o left
    round_closes g gs o r h =
        let paid : left + (round.outer + (1 + round.inner)) ≡ before = round.paid in
        let sum : round.outer ≡ r.outer + (1 + r.inner) = r.sum in
        record {
          place = r.place;
          outer = r.outer;
          inner = r.inner + (1 + round.inner);
          chain = r.chain;
          opened = h;
          paid = omega arith;
        }

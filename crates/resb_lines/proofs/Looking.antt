-- Looks behind looks, and what it takes that one is done.
use Rattle.std.specs.Prelude.{◌≡◌, ℕ, zero, suc, ◌+◌, ◌-◌, ◌<◌, List, [], ◌∷◌, ◌++◌, Option, Some}
use Rattle.std.specs.Prelude.{None, MatchOption, length, take}
use Rattle.std.proofs.Common.{refl, sym, ap, subst, ◌∙◌, arith}
use Rattle.std.proofs.lemmas.List.{map_push}
use Rattle.resb_tree.specs.Tree.{Tree, Trees, more_trees, Entries, entry, tree_count}
use Rattle.resb_print.specs.Held.{IsHeld}
use Rattle.resb_print.specs.Paths.{Step, Tests, by_key, by_number, steps_in, step_of}
use Rattle.resb_print.specs.Paths.{found_else, found_at, found_among, found_in}
use Rattle.resb_print.specs.declared.path.PathStep.{PathStep}
use Rattle.resb_lines.specs.declared.inside.Inside.{Inside}
use Rattle.resb_lines.specs.Inner.Looks.{Look, members_look, entries_look, look_of, looks_in}
use Rattle.resb_lines.specs.Inner.Looks.{without_last, Finding, look_found, nowhere, fold_looks}
use Rattle.resb_lines.specs.Inner.Looks.{looks_found, IsHeldLook, AreHeldLooks, look_turns}
use Rattle.resb_lines.specs.Inner.Looks.{looks_turns, Enters, LooksOnce}

fold_look : {X : Type 0} (f : Look → X → X) (ls : List Look) (l : Look) (x : X)
    → fold_looks f (ls ++ l ∷ []) x ≡ f l (fold_looks f ls x)
fold_look f [] l x = refl
fold_look f (k ∷ ls) l x = fold_look f ls l (f k x)

found_behind : {C : Type 0} (c : Tests C) (ls : List Look) (l : Look) (path : List Step)
    → looks_found c (ls ++ l ∷ []) path ≡ look_found c l (looks_found c ls) path
found_behind c ls l path = ap (λ f. f path) (fold_look (look_found c) ls l nowhere)

turns_behind : (ls : List Look) (l : Look)
    → looks_turns (ls ++ l ∷ []) ≡ looks_turns ls + look_turns l
turns_behind [] l = omega arith
turns_behind (k ∷ ls) l = omega (arith, turns_behind ls l)

held_behind : (ls : List Look) (l : Look) → AreHeldLooks (ls ++ l ∷ [])
    → AreHeldLooks ls × IsHeldLook l
held_behind [] l h = h
held_behind (k ∷ ls) l h = let r = held_behind ls l h.0 in ((r.0, h.1), r.1)

held_before : (ls : List Look) (l : Look) → AreHeldLooks ls × IsHeldLook l
    → AreHeldLooks (ls ++ l ∷ [])
held_before [] l h = h
held_before (k ∷ ls) l h = (held_before ls l ((h.0).0, h.1), (h.0).1)

last_off : (ps : List Step) (p : Step) → without_last (ps ++ p ∷ []) ≡ ps
last_off [] p = refl
last_off (q ∷ []) p = refl
last_off (q ∷ r ∷ ps) p = ap (λ l. q ∷ l) (last_off (r ∷ ps) p)

-- a path whose last step was taken back
pub popped_last : (ps : List PathStep) (m : ℕ) → m ≡ length ps - 1
    → steps_in (take m ps) ≡ without_last (steps_in ps)
popped_last [] zero e = refl
popped_last [] (suc m) e = absurd (omega arith)
popped_last (p ∷ []) zero e = refl
popped_last (p ∷ []) (suc m) e = absurd (omega arith)
popped_last (p ∷ q ∷ ps) zero e = absurd (omega arith)
popped_last (p ∷ q ∷ ps) (suc m) e =
    ap (λ l. step_of p ∷ l) (popped_last (q ∷ ps) m (omega arith))

module _ {M E : Type 0} (m : M → Trees) (e : E → Entries) where
  pub look_put : (old new : List (Inside M E)) (x : Inside M E) → new ≡ old ++ x ∷ []
      → looks_in m e new ≡ looks_in m e old ++ look_of m e x ∷ []
  look_put old new x f = ap (looks_in m e) f ∙ map_push (look_of m e) old x

module _ {C : Type 0} (c : Tests C) (before after : List Look) (path next : List Step) where
  -- a resource that leaves nothing to be looked at
  pub enters_leaf : (t : Tree) (own found : Option C) → found ≡ own
      → ((later : Option (List Step × C)) → found_at c path t later ≡ found_else own path later)
      → after ≡ before → MatchOption found (next ≡ without_last path) (λ x. next ≡ path)
      → IsHeld t → 0 < tree_count t → Enters c before after path next t found
  enters_leaf t own None e is a m held some = record {
    same = λ x f. absurd (cc);
    met = λ x f. absurd (cc);
    passed = λ f. ap (λ ls. looks_found c ls next) a ∙ ap (looks_found c before) m
        ∙ sym (is (looks_found c before (without_last path))
        ∙ ap (λ o. found_else o path (looks_found c before (without_last path))) (sym e));
    held = λ f h. (subst AreHeldLooks a h, held);
    fewer = omega (arith, ap looks_turns a);
  }
  enters_leaf t own (Some x) e is a m held some = record {
    same = λ y f. m;
    met = λ y f later. is later ∙ ap (λ o. found_else o path later) (sym e ∙ f);
    passed = λ f. absurd (cc);
    held = λ f h. absurd (cc);
    fewer = omega (arith, ap looks_turns a);
  }

  -- a collection, which is no cause itself
  pub enters_inside : (t : Tree) (l : Look)
      → ((later : Finding C) → look_found c l later path
      ≡ found_at c path t (later (without_last path)))
      → (IsHeldLook l → IsHeld t) → look_turns l < tree_count t + tree_count t
      → after ≡ before ++ l ∷ [] → next ≡ path → Enters c before after path next t None
  enters_inside t l is held h a p = record {
    same = λ x f. absurd (cc);
    met = λ x f. absurd (cc);
    passed = λ f. ap (λ ls. looks_found c ls next) a ∙ found_behind c before l next
        ∙ ap (look_found c l (looks_found c before)) p ∙ is (looks_found c before);
    held = λ f g. (let r = held_behind before l (subst AreHeldLooks a g) in (r.0, held r.1));
    fewer = omega (arith, ap looks_turns a, turns_behind before l);
  }

  -- nothing is left inside a collection
  pub looked_all : (l : Look)
      → ((later : Finding C) → look_found c l later path ≡ later (without_last path))
      → IsHeldLook l → 0 < look_turns l → after ≡ before → next ≡ without_last path
      → LooksOnce c before after path next l None
  looked_all l is held h a p = record {
    met = λ x f. absurd (cc);
    passed = λ f. ap (λ ls. looks_found c ls next) a ∙ ap (looks_found c before) p
        ∙ sym (is (looks_found c before));
    held = λ f g. (subst AreHeldLooks a g, held);
    fewer = omega (arith, ap looks_turns a);
  }

  -- the next key is a cause
  pub key_met : (all left : Entries) (k : List ℕ) (t : Tree) (x : C) → all ≡ entry k t left
      → Some x ≡ c.of_key k → next ≡ path ++ by_key k ∷ [] → after ≡ before
      → LooksOnce c before after path next (entries_look all) (Some x)
  key_met all left k t x e h p a =
      subst (λ es. LooksOnce c before after path next (entries_look es) (Some x)) (sym e) (record {
        met = λ y f later. (
            let here = path ++ by_key k ∷ [] in
            let rest = found_at c here t (found_in c path left (later (without_last path))) in
            ap (λ o. found_else o here rest) (sym h ∙ f) ∙ ap (λ q. Some (q, y)) (sym p)
            );
        passed = λ f. absurd (cc);
        held = λ f g. absurd (cc);
        fewer = omega (arith, ap looks_turns a);
      })

module _ {C : Type 0} (c : Tests C) (before now after : List Look) (path here next : List Step)
  where
    -- the next member is looked at
    pub looked_member : (all left : Trees) (n m : ℕ) (t : Tree) (found : Option C)
        → all ≡ more_trees t left → m ≡ suc n → here ≡ path ++ by_number n ∷ []
        → now ≡ before ++ members_look m left ∷ [] → Enters c now after here next t found
        → LooksOnce c before after path next (members_look n all) found
    looked_member all left n m t found e s p a d =
        let l = members_look m left in
        let own = path ++ by_number n ∷ [] in
        let back : without_last here ≡ path = ap without_last p ∙ last_off path (by_number n) in
        subst (λ ts. LooksOnce c before after path next (members_look n ts) found) (sym e) (record {
          met = λ x f later. (
              let rest = found_among c path (suc n) left (later (without_last path)) in
              ap (λ q. found_at c q t rest) (sym p) ∙ d.met x f rest
              ∙ ap (λ q. Some (q, x)) (sym (d.same x f))
              );
          passed = λ f. d.passed f
              ∙ ap (found_at c here t) (ap (looks_found c now) back
              ∙ ap (λ ls. looks_found c ls path) a ∙ found_behind c before l path
              ∙ ap (λ k. found_among c path k left (looks_found c before (without_last path))) s)
              ∙ ap (λ q. found_at c q t (found_among c path (suc n) left
              (looks_found c before (without_last path)))) p;
          held = λ f g. (
              let r = d.held f g in
              let q = held_behind before l (subst AreHeldLooks a r.0) in
              (q.0, (r.1, q.1))
              );
          fewer = omega (arith, d.fewer, ap looks_turns a, turns_behind before l);
        })

    -- the next entry is looked at, whose key is no cause
    pub looked_entry : (all left : Entries) (k : List ℕ) (t : Tree) (found : Option C)
        → all ≡ entry k t left → None ≡ c.of_key k → here ≡ path ++ by_key k ∷ []
        → now ≡ before ++ entries_look left ∷ [] → Enters c now after here next t found
        → LooksOnce c before after path next (entries_look all) found
    looked_entry all left k t found e h p a d =
        let l = entries_look left in
        let own = path ++ by_key k ∷ [] in
        let back : without_last here ≡ path = ap without_last p ∙ last_off path (by_key k) in
        subst (λ es. LooksOnce c before after path next (entries_look es) found) (sym e) (record {
          met = λ x f later. (
              let rest = found_in c path left (later (without_last path)) in
              ap (λ o. found_else o own (found_at c own t rest)) (sym h)
              ∙ ap (λ q. found_at c q t rest) (sym p) ∙ d.met x f rest
              ∙ ap (λ q. Some (q, x)) (sym (d.same x f))
              );
          passed = λ f. (
              let rest = found_in c path left (looks_found c before (without_last path)) in
              d.passed f
              ∙ ap (found_at c here t) (ap (looks_found c now) back
              ∙ ap (λ ls. looks_found c ls path) a ∙ found_behind c before l path)
              ∙ ap (λ q. found_at c q t rest) p
              ∙ ap (λ o. found_else o own (found_at c own t rest)) h
              );
          held = λ f g. (
              let r = d.held f g in
              let q = held_behind before l (subst AreHeldLooks a r.0) in
              (q.0, (r.1, q.1))
              );
          fewer = omega (arith, d.fewer, ap looks_turns a, turns_behind before l);
        })

module _ {C : Type 0} (c : Tests C) (all left after : List Look) (path next : List Step) (l : Look)
    (found : Option C) (a : all ≡ left ++ l ∷ []) (d : LooksOnce c left after path next l found)
  where
    last_look : looks_found c all path ≡ look_found c l (looks_found c left) path
    last_look = ap (λ ls. looks_found c ls path) a ∙ found_behind c left l path

    -- where the last look finds a cause, it is the first, and else as much is left as before
    pub cause_met : (x : C) → found ≡ Some x → looks_found c all path ≡ Some (next, x)
    cause_met x f = last_look ∙ d.met x f (looks_found c left)

    pub cause_passed : found ≡ None → looks_found c after next ≡ looks_found c all path
    cause_passed f = d.passed f ∙ sym last_look

    pub held_passed : found ≡ None → AreHeldLooks after → AreHeldLooks all
    held_passed f h = subst AreHeldLooks (sym a) (held_before left l (d.held f h))

    pub fewer_looks : looks_turns after < looks_turns all
    fewer_looks = omega (arith, d.fewer, ap looks_turns a, turns_behind left l)

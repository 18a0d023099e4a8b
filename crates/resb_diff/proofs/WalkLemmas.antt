-- Changes that are still to be looked at, as they are put behind others.
use Rattle.std.proofs.Common.{◌≡◌, ℕ, ◌+◌, ◌≤◌, List, [], ◌∷◌, ◌++◌, length, get_or, reverse}
use Rattle.std.proofs.Common.{refl, sym, ap, ◌∙◌, append_assoc}
use Rattle.std.proofs.Common.{append-nil, arith, Bool, true, false}
use Rattle.std.specs.Prelude.{if◌then◌else◌}
use Rattle.std.specs.List.{flat_map}
use Rattle.std.specs.Borrow.{Bor}
use Rattle.std.proofs.lemmas.List.{map-append, reverse-append, reverse-reverse}
use Rattle.std.proofs.lemmas.List.{length_push, get_or_append_left, get_or_push, map_push}
use Rattle.std.proofs.lemmas.Grind.{flat_map-append}
use Rattle.resb_tree.specs.Tree.{tree_count}
use Rattle.resb_tree.specs.View.{tree_of}
use Rattle.resb_tree.specs.declared.resource.Resource.{Resource}
use Rattle.resb_tree.specs.Inner.EqualityLemmas.{tree_eq_decides}
use Rattle.resb_tree.proofs.LayingOrderLemmas.{tree_count_is}
use Rattle.resb_diff.specs.Differences.{Step, Difference, changed, differences}
use Rattle.resb_diff.specs.View.{named, listed}
use Rattle.resb_diff.specs.declared.differences.Change.{Change}
use Rattle.resb_diff.specs.declared.differences.Change.TheVariants.{Added, Removed, Changed}
use Rattle.resb_diff.specs.declared.differences.Found.{Found}
use Rattle.resb_diff.specs.Inner.Walking.{looked_at, to_come, weight, weights, AreWithin, Keeps}
use Rattle.resb_diff.specs.Inner.Walking.{PutsOne, ComeTo, LooksAt, DifferAsWhole}

-- a change takes a step at least
pub weight_is_one : (c : Change) → 1 ≤ weight c
weight_is_one (Added u) = omega arith
weight_is_one (Removed t) = omega arith
weight_is_one (Changed t u) = omega (arith, tree_count_is (tree_of t.now))

pub within_more : (n m : ℕ) (fs : List Found) → n ≤ m → AreWithin n fs → AreWithin m fs
within_more n m [] h w = tt
within_more n m (f ∷ fs) h w = (omega (arith, w.0), within_more n m fs h w.1)

pub within_append : (n : ℕ) (fs gs : List Found) → AreWithin n fs → AreWithin n gs
    → AreWithin n (fs ++ gs)
within_append n [] gs w v = v
within_append n (f ∷ fs) gs w v = (w.0, within_append n fs gs w.1 v)

pub weights-append : (fs gs : List Found) → weights (fs ++ gs) ≡ weights fs + weights gs
weights-append [] gs = omega arith
weights-append (f ∷ fs) gs = omega (arith, weights-append fs gs)

-- changes stand for the same where their paths stay
pub listed_kept : (ps qs : List (List Step)) (fs : List Found) → Keeps ps qs
    → AreWithin (length ps) fs → listed qs fs ≡ listed ps fs
listed_kept ps qs [] k w = refl
listed_kept ps qs (f ∷ fs) k w =
    λ i. named (k.same f.path w.0 i) f.change ∷ listed_kept ps qs fs k w.1 i

pub keeps_all : (ps : List (List Step)) → Keeps ps ps
keeps_all ps = record { as_many = omega arith; same = λ i h. refl }

pub keeps_more : (ps qs rs : List (List Step)) → Keeps ps qs → Keeps qs rs → Keeps ps rs
keeps_more ps qs rs k l = record {
  as_many = omega (arith, k.as_many, l.as_many);
  same = λ i h. l.same i (omega (arith, k.as_many)) ∙ k.same i h;
}

pub keeps_push : (ps : List (List Step)) (p : List Step) → Keeps ps (ps ++ p ∷ [])
keeps_push ps p = record {
  as_many = omega (arith, length_push ps p);
  same = λ i h. get_or_append_left ps (p ∷ []) [] i h;
}

puts_new : (ps : List (List Step)) (fs : List Found) (p : List Step) (c : Change)
    → AreWithin (length ps) fs
    → PutsOne ps fs p c (ps ++ p ∷ []) (fs ++ record { path = length ps; change = c } ∷ [])
puts_new ps fs p c w =
    let f : Found = record { path = length ps; change = c } in
    let k : Keeps ps (ps ++ p ∷ []) = keeps_push ps p in
    record {
      lists = map_push (λ (g : Found). named (get_or (ps ++ p ∷ []) g.path []) g.change) fs f
          ∙ (λ i. listed_kept ps (ps ++ p ∷ []) fs k w i
          ++ named (get_or_push ps p [] (length ps) refl i) c ∷ []);
      within = within_append _ fs (f ∷ [])
          (within_more (length ps) _ fs (omega (arith, length_push ps p)) w)
          (omega (arith, length_push ps p), tt);
      keeps = k;
      weighs = omega (arith, weights-append fs (f ∷ []));
      long = length_push fs f;
    }

pub puts_one : (ps qs : List (List Step)) (fs gs : List Found) (p : List Step) (c : Change) (n : ℕ)
    → AreWithin (length ps) fs → n ≡ length ps → qs ≡ ps ++ p ∷ []
    → gs ≡ fs ++ record { path = n; change = c } ∷ [] → PutsOne ps fs p c qs gs
puts_one ps qs fs gs p c n w e f g =
    let h : gs ≡ fs ++ record { path = length ps; change = c } ∷ [] =
    g ∙ ap (λ m. fs ++ record { path = m; change = c } ∷ []) e in
    rw (f, h) (puts_new ps fs p c w)

-- a change that comes next is put behind the others
pub comes_more : (ps qs : List (List Step)) (fs gs : List Found) (p : List Step) (c : Change)
    (next rest all : List Difference) → PutsOne ps fs p c qs gs
    → next ≡ looked_at (named p c) ++ rest → to_come ps fs ++ next ≡ all
    → to_come qs gs ++ rest ≡ all
comes_more ps qs fs gs p c next rest all o e h =
    ap (λ l. flat_map looked_at l ++ rest) o.lists
    ∙ ap (λ l. l ++ rest) (flat_map-append looked_at (listed ps fs) (named p c ∷ []))
    ∙ append_assoc (to_come ps fs) (looked_at (named p c) ++ []) rest
    ∙ ap (λ l. to_come ps fs ++ (l ++ rest)) (append-nil (looked_at (named p c)))
    ∙ ap (λ l. to_come ps fs ++ l) (sym e)
    ∙ h

to_come-append : (ps : List (List Step)) (fs gs : List Found)
    → to_come ps (fs ++ gs) ≡ to_come ps fs ++ to_come ps gs
to_come-append ps fs gs =
    ap (flat_map looked_at) (map-append (λ (f : Found). named (get_or ps f.path []) f.change) fs gs)
    ∙ flat_map-append looked_at (listed ps fs) (listed ps gs)

-- a difference that is so is put behind those that were found
pub looked_found : (ps : List (List Step)) (fs gs : List Found) (f : Found) (pending : List Found)
    → AreWithin (length ps) fs → AreWithin (length ps) (f ∷ pending) → gs ≡ fs ++ f ∷ []
    → looked_at (named (get_or ps f.path []) f.change) ≡ named (get_or ps f.path []) f.change ∷ []
    → LooksAt ps fs (f ∷ pending) ps gs pending
looked_found ps fs gs f pending w v g e =
    let at : Found → Difference = λ h. named (get_or ps h.path []) h.change in
    rw g (record {
      same = ap (λ l. l ++ to_come ps pending) (map_push at fs f)
          ∙ append_assoc (listed ps fs) (at f ∷ []) (to_come ps pending)
          ∙ ap (λ l. listed ps fs ++ (l ++ to_come ps pending)) (sym e);
      found_within = within_append _ fs (f ∷ []) w (v.0, tt);
      pending_within = v.1;
      weighs = omega (arith, weight_is_one f.change);
    })

-- two equal trees give way to nothing
pub looked_equal : (ps : List (List Step)) (fs : List Found) (f : Found) (pending : List Found)
    → AreWithin (length ps) fs → AreWithin (length ps) (f ∷ pending)
    → looked_at (named (get_or ps f.path []) f.change) ≡ []
    → LooksAt ps fs (f ∷ pending) ps fs pending
looked_equal ps fs f pending w v e = record {
  same = ap (λ l. listed ps fs ++ (l ++ to_come ps pending)) (sym e);
  found_within = w;
  pending_within = v.1;
  weighs = omega (arith, weight_is_one f.change);
}

-- two collections give way to what is right inside
pub looked_inside : (ps qs : List (List Step)) (fs : List Found) (f : Found)
    (pending inside : List Found) → AreWithin (length ps) fs
    → AreWithin (length ps) (f ∷ pending)
    → ComeTo ps (looked_at (named (get_or ps f.path []) f.change)) (weight f.change) qs inside
    → LooksAt ps fs (f ∷ pending) qs fs (inside ++ pending)
looked_inside ps qs fs f pending inside w v o = record {
  same = (λ i. listed_kept ps qs fs o.keeps w i ++ to_come-append qs inside pending i)
      ∙ (λ i. listed ps fs ++ (o.comes i
      ++ flat_map looked_at (listed_kept ps qs pending o.keeps v.1 i)));
  found_within = within_more _ _ fs o.keeps.as_many w;
  pending_within =
      within_append _ inside pending o.within (within_more _ _ pending o.keeps.as_many v.1);
  weighs = omega (arith, o.weighs, weights-append inside pending);
}

-- what is put on a list backwards is taken off forwards
pub taken_off : (pending inside : List Found)
    → reverse (pending ++ reverse inside) ≡ inside ++ reverse pending
taken_off pending inside =
    reverse-append pending (reverse inside)
    ∙ ap (λ l. l ++ reverse pending) (reverse-reverse inside)

not_true : (b : Bool) → (b ≡ true → ⊥) → b ≡ false
not_true true h = absurd (h refl)
not_true false h = refl

-- what was added or removed is so
pub not_changed : (p : List Step) (c : Change)
    → ((t u : Bor Resource) → c ≡ Changed t u → ⊥)
    → looked_at (named p c) ≡ named p c ∷ []
not_changed p (Added u) h = refl
not_changed p (Removed t) h = refl
not_changed p (Changed t u) h = absurd (h t u refl)

-- two trees that are changed as a whole
pub changed_whole : (p : List Step) (c : Change) (t u : Bor Resource) → c ≡ Changed t u
    → DifferAsWhole (tree_of t.now) (tree_of u.now) → (tree_of t.now ≡ tree_of u.now → ⊥)
    → looked_at (named p c) ≡ named p c ∷ []
changed_whole p c t u e w h =
    rw e (w p ∙ ap (λ b. if b then [] else changed p (tree_of t.now) (tree_of u.now) ∷ [])
    (not_true _ (λ f. h ((tree_eq_decides (tree_of t.now) (tree_of u.now)).0 f))))

pub equal_whole : (p : List Step) (c : Change) (t u : Bor Resource) → c ≡ Changed t u
    → DifferAsWhole (tree_of t.now) (tree_of u.now) → tree_of t.now ≡ tree_of u.now
    → looked_at (named p c) ≡ []
equal_whole p c t u e w h =
    rw e (w p ∙ ap (λ b. if b then [] else changed p (tree_of t.now) (tree_of u.now) ∷ [])
    ((tree_eq_decides (tree_of t.now) (tree_of u.now)).1 h))

-- what differs between two collections is what their change comes to
pub looked_changed : (ps qs : List (List Step)) (p : List Step) (c : Change) (t u : Bor Resource)
    (fs : List Found) → c ≡ Changed t u
    → ComeTo ps (differences p (tree_of t.now) (tree_of u.now))
    (tree_count (tree_of t.now) + tree_count (tree_of u.now)) qs fs
    → ComeTo ps (looked_at (named p c)) (weight c) qs fs
looked_changed ps qs p c t u fs e o = rw e o

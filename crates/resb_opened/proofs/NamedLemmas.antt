-- The entry that a file has at a name is the one that the tree has.
use Rattle.std.proofs.Common.{◌≡◌, ℕ, List, [], ◌∷◌, Option, Some, None, refl, sym, subst, ap}
use Rattle.std.proofs.Common.{◌∙◌, map, true, false, Bool}
use Rattle.std.proofs.Math.Logic.{∥∥₁_elim}
use Rattle.std.proofs.lemmas.Option.{same_Some}
use Rattle.std.specs.Coded.{Σ_prop}
use Rattle.std.specs.Prelude.{if◌then◌else◌, option_map}
use Rattle.resb_tree.specs.Maps.{get}
use Rattle.resb_tree.specs.Tree.{Tree, table}
use Rattle.resb_format.specs.Content.{Member, word, unit, Content, entry_list}
use Rattle.resb_format.specs.Denotes.{DenMember, den_word}
use Rattle.resb_format.specs.Parts.{Parts}
use Rattle.resb_format.specs.Types as types
use Rattle.resb_walk.specs.Inner.MemberContent.{member_content}
use Rattle.resb_read.specs.Inside.{StandsAs}
use Rattle.resb_read.specs.Leaves.{type_in}
use Rattle.resb_read.specs.Places.{Place, spot_of}
use Rattle.resb_read.specs.Resources.{DenPlace}
use Rattle.resb_read.specs.Sequences.{at_spot, at_entry, entries_at, content_entries}
use Rattle.resb_read.specs.Tables.{last_named, last_from, has_name}
use Rattle.resb_read.specs.declared.cursor.Spot.TheVariants as spot
use Rattle.resb_read.proofs.InsideTrees.{entries_stand_inside}
use Rattle.resb_opened.specs.Handles.{entries_in}
use Rattle.resb_opened.specs.Ordered.{Ordered, OrderedEach, each_more}
use Rattle.resb_opened.specs.FieldLaws.{Stands-prop}
use Rattle.resb_opened.specs.Standing.{Denoted, Stands}
use Rattle.resb_opened.proofs.OrderedLemmas.{place_denotes}
use Rattle.resb_opened.proofs.StandingLemmas.{none_some, option_tree-set}

-- a member's place is that of no other
pub one_member : (m x : Member) → spot_of m ≡ spot_of x → m ≡ x
one_member (word v) (word w) h = cc
one_member (word v) (unit u) h = absurd cc
one_member (unit u) (word w) h = absurd cc
one_member (unit u) (unit v) h = cc

pub spot_word : (m : Member) (w : ℕ) → spot_of m ≡ spot.Descriptor w → Some (word w) ≡ Some m
spot_word m w h = ap Some (sym (one_member m (word w) h))

pub spot_unit : (m : Member) (v : ℕ) → spot_of m ≡ spot.Unit v → Some (unit v) ≡ Some m
spot_unit m v h = ap Some (sym (one_member m (unit v) h))

pub spot_number : (m : Member) (v : ℕ) → spot_of m ≡ spot.Word v → None ≡ Some m
spot_number (word w) v h = absurd cc
spot_number (unit u) v h = absurd cc

pub spot_key : (m : Member) (k : ℕ) → spot_of m ≡ spot.Key k → None ≡ Some m
spot_key (word w) k h = absurd cc
spot_key (unit u) k h = absurd cc

pub ruleset spots = (spot_word, spot_unit, spot_number, spot_key)

member_denotes : (p : Parts) (m : Member) (t : Tree) (n : ℕ)
    → DenPlace (at_spot p (spot_of m)) t n → DenMember p m t n
member_denotes p (word w) t n d = den_word d
member_denotes p (unit u) t n d = d

module _ (p : Parts) (name : List ℕ) (Each : Type 0) where
  -- a place is that of a member, and its tables ascend if those of each member do
  abbrev pub IsMember : Place → Type 0
  IsMember q = (m : Member) × (q ≡ at_spot p (spot_of m)) × (Each → Ordered p m)

  first_of_each : {m : Member} {ms : List Member} → OrderedEach p (m ∷ ms) → Ordered p m
  first_of_each (each_more o os) = o

  rest_of_each : {m : Member} {ms : List Member} → OrderedEach p (m ∷ ms) → OrderedEach p ms
  rest_of_each (each_more o os) = os

  chosen : (b : Bool) (m : Member) (found : Option Place) → (Each → Ordered p m)
      → ((q : Place) → found ≡ Some q → IsMember q) → (q : Place)
      → (if b then Some (at_spot p (spot_of m)) else found) ≡ Some q → IsMember q
  chosen true m found all h q e = (m, sym (same_Some _ _ e), all)
  chosen false m found all h q e = h q e

  found_in : (es : List (ℕ × Member)) → (Each → OrderedEach p (map (λ e. e.1) es))
      → (found : Option Place) → ((q : Place) → found ≡ Some q → IsMember q) → (q : Place)
      → last_from name found (map (at_entry p) es) ≡ Some q → IsMember q
  found_in [] all found h q e = h q e
  found_in (x ∷ es) all found h q e =
      found_in es (λ a. rest_of_each (all a))
      (if has_name name (at_entry p x) then Some (at_spot p (spot_of x.1)) else found)
      (chosen (has_name name (at_entry p x)) x.1 found (λ a. first_of_each (all a)) h) q e

-- the place of a name is that of a member of the table
pub named_member : (p : Parts) (name : List ℕ) (es : List (ℕ × Member)) (q : Place)
    → last_named name (map (at_entry p) es) ≡ Some q
    → IsMember p name (OrderedEach p (map (λ e. e.1) es)) q
named_member p name es q e =
    found_in p name (OrderedEach p (map (λ x. x.1) es)) es (λ a. a) None
    (λ r h. absurd (none_some refl h)) q e

told_entries : (p : Parts) (b : Bool) (o : Option Content) (es : List (ℕ × Member))
    (places : List (Place × Place)) → o ≡ Some (entry_list es)
    → option_map (map (at_entry p)) (if b then content_entries o else None) ≡ Some places
    → places ≡ map (at_entry p) es
told_entries p true o es places e h =
    sym (same_Some _ _ (sym (ap (λ c. option_map (map (at_entry p)) (content_entries c)) e) ∙ h))
told_entries p false o es places e h = absurd (none_some refl h)

entries_of_member : (p : Parts) (m : Member) (es : List (ℕ × Member))
    (places : List (Place × Place)) → member_content p m ≡ Some (entry_list es)
    → entries_at (at_spot p (spot_of m)) ≡ Some places → places ≡ map (at_entry p) es
entries_of_member p (word w) es places e h =
    told_entries p (types.is_table (type_in w)) (member_content p (word w)) es places e h
entries_of_member p (unit u) es places e h = absurd (none_some refl h)

module _ (p : Parts) (m : Member) (t : Tree) (es : List (ℕ × Member))
    (content : member_content p m ≡ Some (entry_list es)) (is : t ≡ table (entries_in t))
    (d : Denoted p m t) (name : List ℕ) where
  stand_named : (n : ℕ) → DenMember p m t n
      → StandsAs (last_named name (map (at_entry p) es)) (get name (entries_in t))
  stand_named n h =
      let (places, are, stand) = entries_stand_inside (at_spot p (spot_of m)) (entries_in t) n
      (subst (λ u. DenPlace (at_spot p (spot_of m)) u n) is (place_denotes h)) in
      subst (λ xs. StandsAs (last_named name xs) (get name (entries_in t)))
      (entries_of_member p m es places content are) (stand name)

  -- the tree of the entry stands at the member that is found
  pub named_stands : (x : Member)
      → last_named name (map (at_entry p) es) ≡ Some (at_spot p (spot_of x))
      → (s : Stands p x) × (get name (entries_in t) ≡ Some s.0)
  named_stands x e =
      ∥∥₁_elim d (Σ_prop (Stands-prop p x) (λ s. option_tree-set _ _))
      (λ h. by (get name (entries_in t)) refl
      (subst (λ o. StandsAs o (get name (entries_in t))) e (stand_named h.0 h.1)))
    where
      by : (o : Option Tree) → get name (entries_in t) ≡ o
          → StandsAs (Some (at_spot p (spot_of x))) (get name (entries_in t))
          → (s : Stands p x) × (get name (entries_in t) ≡ Some s.0)
      by (Some u) k h =
          let (n, den) = subst (StandsAs (Some (at_spot p (spot_of x)))) k h in
          ((u, ∣ (n, member_denotes p x u n den) ∣₁), k)
      by None k h = absurd (subst (StandsAs (Some (at_spot p (spot_of x)))) k h)

  -- where none is found, the tree has none
  pub none_stands : last_named name (map (at_entry p) es) ≡ None
      → get name (entries_in t) ≡ None
  none_stands e =
      ∥∥₁_elim d (option_tree-set _ _) (λ h. by (get name (entries_in t)) refl
      (subst (λ o. StandsAs o (get name (entries_in t))) e (stand_named h.0 h.1)))
    where
      by : (o : Option Tree) → get name (entries_in t) ≡ o
          → StandsAs None (get name (entries_in t)) → get name (entries_in t) ≡ None
      by (Some u) k h = absurd (subst (StandsAs None) k h)
      by None k h = k

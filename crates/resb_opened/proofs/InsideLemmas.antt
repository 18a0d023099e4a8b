-- What ascends, and what is found, in what is inside an array or a table.
use Rattle.std.proofs.Common.{◌≡◌, ℕ, List, Some, None, refl, sym, subst, ap, ◌∙◌, map}
use Rattle.std.proofs.Common.{slice_get, true}
use Rattle.std.proofs.Math.Logic.{∥∥₁_elim, ∥∥₁_map}
use Rattle.std.proofs.Props.{props}
use Rattle.std.proofs.lemmas.Option.{same_Some}
use Rattle.resb_tree.specs.Maps.{get}
use Rattle.resb_tree.specs.LayingOrder.{array_members}
use Rattle.resb_tree.specs.Tree.{Tree, string, alias, array, table, binary, integer, int_vector}
use Rattle.resb_tree.specs.Tree.{trees_of}
use Rattle.resb_tree.proofs.LayingOrderLemmas.{trees_of-array_members}
use Rattle.resb_format.specs.Content.{Member, list, entry_list}
use Rattle.resb_format.specs.Parts.{Parts}
use Rattle.resb_walk.specs.Inner.MemberContent.{member_content}
use Rattle.resb_read.specs.Places.{Place, spot_of}
use Rattle.resb_read.specs.Sequences.{at_spot, at_entry}
use Rattle.resb_read.specs.Tables.{keys_ascend, last_named}
use Rattle.resb_read.specs.declared.cursor.Spot.{Spot}
use Rattle.resb_opened.specs.Handles.{members_in, entries_in}
use Rattle.resb_opened.specs.Inner.Holding.{Holds, trees_in}
use Rattle.resb_opened.specs.Ordered.{Ordered, OrderedEach}
use Rattle.resb_opened.specs.Standing.{Denoted, Stands}
use Rattle.resb_opened.proofs.NamedLemmas.{one_member, named_member, named_stands, none_stands}
use Rattle.resb_opened.proofs.OrderedLemmas.{inside_list, inside_table, ordered_at}
use Rattle.resb_opened.proofs.StandingLemmas.{none_some}

module _ (p : Parts) (m : Member) (t : Tree) (d : Denoted p m t) where
  -- each member of an array whose tables ascend
  pub member_ordered : (ms : List Member) → member_content p m ≡ Some (list ms)
      → Holds p (list ms) t → (k : ℕ) (x : Member) → slice_get ms k ≡ Some x
      → ∥ Ordered p m ∥₁ → ∥ Ordered p x ∥₁
  member_ordered ms e h k x at all = ∥∥₁_map all (λ o. ordered_at p ms
      (inside_list p m (trees_in t) ms e (subst (Denoted p m) h.0 d) o) k x at)

  -- all members of such an array
  pub members_ordered : (ms : List Member) → member_content p m ≡ Some (list ms)
      → Holds p (list ms) t → ∥ Ordered p m ∥₁ → ∥ OrderedEach p ms ∥₁
  members_ordered ms e h all = ∥∥₁_map all
      (λ o. inside_list p m (trees_in t) ms e (subst (Denoted p m) h.0 d) o)

  module _ (es : List (ℕ × Member)) (content : member_content p m ≡ Some (entry_list es))
      (h : Holds p (entry_list es) t) where
    denoted_table : Denoted p m (table (entries_in t))
    denoted_table = subst (Denoted p m) h.0 d

    -- the keys of such a table
    pub keys_ordered : ∥ Ordered p m ∥₁ → keys_ascend (map (at_entry p) es) ≡ true
    keys_ordered o = ∥∥₁_elim o (hlevel props)
        (λ x. (inside_table p m (entries_in t) es content denoted_table x).0)

    -- the values of such a table
    pub values_ordered : ∥ Ordered p m ∥₁ → ∥ OrderedEach p (map (λ e. e.1) es) ∥₁
    values_ordered o = ∥∥₁_map o
        (λ x. (inside_table p m (entries_in t) es content denoted_table x).1)

    -- the value of a name, by its place
    pub value_ordered : (name : List ℕ) (q : Place)
        → last_named name (map (at_entry p) es) ≡ Some q → (x : Member)
        → spot_of x ≡ q.at → ∥ Ordered p m ∥₁ → ∥ Ordered p x ∥₁
    value_ordered name q e x is all = ∥∥₁_map all (λ o.
        let (y, same, each) = named_member p name es q e in
        subst (Ordered p) (one_member y x (sym (ap (λ r. r.at) same) ∙ sym is))
        (each (inside_table p m (entries_in t) es content denoted_table o).1))

    pub value_stands : (name : List ℕ) (q : Place)
        → last_named name (map (at_entry p) es) ≡ Some q → (x : Member)
        → spot_of x ≡ q.at → (s : Stands p x) × (get name (entries_in t) ≡ Some s.0)
    value_stands name q e x is =
        let (y, same, all) = named_member p name es q e in
        let one : y ≡ x = one_member y x (sym (ap (λ r. r.at) same) ∙ sym is) in
        named_stands p m t es content h.0 d name x
        (e ∙ ap Some (same ∙ ap (λ z. at_spot p (spot_of z)) one))

    pub nothing_stands : (name : List ℕ) → last_named name (map (at_entry p) es) ≡ None
        → get name (entries_in t) ≡ None
    nothing_stands name e = none_stands p m t es content h.0 d name e

-- where a found value stands is where its member does
module _ (p : Parts) (es : List (ℕ × Member)) (name : List ℕ) (q : Place)
    (e : last_named name (map (at_entry p) es) ≡ Some q) (s : Spot) (is : s ≡ q.at) where
  its_spot : (y : Member) × (spot_of y ≡ s)
  its_spot =
      let (y, same, each) = named_member p name es q e in
      (y, sym (ap (λ r. r.at) same) ∙ sym is)

  pub spot_is : (x : Member) → ((y : Member) → spot_of y ≡ s → Some x ≡ Some y)
      → spot_of x ≡ q.at
  spot_is x f =
      let (y, h) = its_spot in ap spot_of (same_Some _ _ (f y h)) ∙ h ∙ is

  pub never_elsewhere : {A : Type 0} → ((y : Member) → spot_of y ≡ s → None ≡ Some y) → A
  never_elsewhere f = let (y, h) = its_spot in absurd (none_some refl (f y h))

-- the members of an array, as a list
pub members_in_trees : (t : Tree) → members_in t ≡ array_members (trees_in t)
members_in_trees (array ts) = refl
members_in_trees (string s) = refl
members_in_trees (alias s) = refl
members_in_trees (table es) = refl
members_in_trees (binary bytes) = refl
members_in_trees (integer n) = refl
members_in_trees (int_vector ns) = refl

pub array_again : (t : Tree) → t ≡ array (trees_in t) → t ≡ array (trees_of (members_in t))
array_again t e =
    e ∙ ap array (sym (trees_of-array_members (trees_in t))
    ∙ ap trees_of (sym (members_in_trees t)))

-- What ascends in a collection ascends in what is inside it.
use Rattle.std.proofs.Common.{◌≡◌, ℕ, zero, suc, List, [], ◌∷◌, ◌++◌, Option, Some, None, refl, sym}
use Rattle.std.proofs.Common.{subst, ◌∙◌, slice_get, map, true, false, Bool}
use Rattle.std.proofs.Math.Logic.{∥∥₁_elim}
use Rattle.std.proofs.lemmas.Bool.{false≢true}
use Rattle.std.proofs.lemmas.Option.{same_Some}
use Rattle.std.proofs.Props.{props}
use Rattle.std.specs.Prelude.{◌||◌, option_map, if◌then◌else◌}
use Rattle.resb_tree.specs.Tree.{Tree, string, array, table, Trees, Entries}
use Rattle.resb_format.specs.Content.{Member, word, unit, leaf, list, entry_list}
use Rattle.resb_format.specs.Lookups.{text_in, index_in}
use Rattle.resb_format.specs.Denotes.{DenMember, den_word, den_unit}
use Rattle.resb_format.specs.Parts.{Parts}
use Rattle.resb_format.specs.Types as types
use Rattle.resb_format.proofs.Denoting.{same_list, same_entries, list_entries}
use Rattle.resb_walk.specs.Inner.MemberContent.{member_content}
use Rattle.resb_read.specs.Inside.{IsTypeOf}
use Rattle.resb_read.specs.Leaves.{type_in}
use Rattle.resb_read.specs.Places.{spot_of}
use Rattle.resb_read.specs.Resources.{DenPlace}
use Rattle.resb_read.specs.Sequences.{at_spot, at_entry}
use Rattle.resb_read.specs.Tables.{keys_ascend}
use Rattle.resb_read.proofs.InsideTrees.{types_tell_trees}
use Rattle.resb_opened.specs.Ordered.{Ordered, ordered_leaf, ordered_list}
use Rattle.resb_opened.specs.Ordered.{ordered_entries, OrderedEach, each_none, each_more}
use Rattle.resb_opened.specs.Standing.{Denoted}
use Rattle.resb_opened.proofs.StandingLemmas.{none_some}

-- a place denotes what its member does
pub place_denotes : {p : Parts} {m : Member} {t : Tree} {n : ℕ} → DenMember p m t n
    → DenPlace (at_spot p (spot_of m)) t n
place_denotes (den_word d) = d
place_denotes (den_unit e) = den_unit e

-- the type of a word is that of its tree
type_of_tree : (p : Parts) (w n : ℕ) (t : Tree) → DenMember p (word w) t n → IsTypeOf t (type_in w)
type_of_tree p w n t d =
    let (type, told, is) = types_tell_trees (at_spot p (spot_of (word w))) t n (place_denotes d) in
    subst (IsTypeOf t) (sym (told_type _ type told)) is
  where
    told_type : (b : Bool) (type : ℕ)
        → (if b then Some (type_in w) else None) ≡ Some type → type_in w ≡ type
    told_type true type h = same_Some _ _ h
    told_type false type h = absurd (none_some refl h)

is_array_word : (p : Parts) (w : ℕ) (ts : Trees) → Denoted p (word w) (array ts)
    → types.is_array (type_in w) ≡ true
is_array_word p w ts d =
    ∥∥₁_elim d (hlevel props) (λ x. type_of_tree p w x.0 (array ts) x.1)

is_table_word : (p : Parts) (w : ℕ) (es : Entries) → Denoted p (word w) (table es)
    → types.is_table (type_in w) ≡ true
is_table_word p w es d =
    ∥∥₁_elim d (hlevel props) (λ x. type_of_tree p w x.0 (table es) x.1)

-- a text is no collection
text_or_list : {ms : List Member} (o : Option (List ℕ))
    → option_map (λ s. leaf (string s)) o ≡ Some (list ms) → ⊥
text_or_list (Some s) h = cc
text_or_list None h = none_some refl h

text_or_entries : {es : List (ℕ × Member)} (o : Option (List ℕ))
    → option_map (λ s. leaf (string s)) o ≡ Some (entry_list es) → ⊥
text_or_entries (Some s) h = cc
text_or_entries None h = none_some refl h

neither : (a b : Bool) → (a || b) ≡ false → (a ≡ false) × (b ≡ false)
neither false false h = (refl, refl)
neither false true h = absurd (false≢true (sym h))
neither true b h = absurd (false≢true (sym h))

module _ (p : Parts) where
  -- the members of an array
  pub inside_list : (m : Member) (ts : Trees) (ms : List Member)
      → member_content p m ≡ Some (list ms) → Denoted p m (array ts) → Ordered p m
      → OrderedEach p ms
  inside_list (unit u) ts ms e d h = absurd (text_or_list (text_in p (index_in p u)) e)
  inside_list (word w) ts ms e d (ordered_leaf a b) =
      absurd (false≢true (sym b ∙ is_array_word p w ts d))
  inside_list (word w) ts ms e d (ordered_list f os) = subst (OrderedEach p) (same_list f e) os
  inside_list (word w) ts ms e d (ordered_entries f k os) = absurd (list_entries e f)

  -- the keys and the values of a table
  pub inside_table : (m : Member) (fs : Entries) (es : List (ℕ × Member))
      → member_content p m ≡ Some (entry_list es) → Denoted p m (table fs) → Ordered p m
      → (keys_ascend (map (at_entry p) es) ≡ true) × OrderedEach p (map (λ e. e.1) es)
  inside_table (unit u) fs es e d h = absurd (text_or_entries (text_in p (index_in p u)) e)
  inside_table (word w) fs es e d (ordered_leaf a b) =
      absurd (false≢true (sym a ∙ is_table_word p w fs d))
  inside_table (word w) fs es e d (ordered_list f os) = absurd (list_entries f e)
  inside_table (word w) fs es e d (ordered_entries f k os) =
      subst (λ xs. (keys_ascend (map (at_entry p) xs) ≡ true) × OrderedEach p (map (λ e. e.1) xs))
      (same_entries f e) (k, os)

  -- each of several
  pub ordered_at : (ms : List Member) → OrderedEach p ms → (k : ℕ) (x : Member)
      → slice_get ms k ≡ Some x → Ordered p x
  ordered_at [] each_none zero x h = absurd (none_some refl h)
  ordered_at [] each_none (suc k) x h = absurd (none_some refl h)
  ordered_at (m ∷ ms) (each_more o os) zero x h = subst (Ordered p) (same_Some _ _ h) o
  ordered_at (m ∷ ms) (each_more o os) (suc k) x h = ordered_at ms os k x h

  -- those of two lists
  pub each_of_two : (ms ns : List Member) → OrderedEach p (ms ++ ns)
      → OrderedEach p ms × OrderedEach p ns
  each_of_two [] ns h = (each_none, h)
  each_of_two (m ∷ ms) ns (each_more o os) =
      let (a, b) = each_of_two ms ns os in (each_more o a, b)

  -- one more that is pending
  pub pushed : (ws : List ℕ) (w : ℕ) → OrderedEach p (map (λ x. word x) (ws ++ w ∷ []))
      → OrderedEach p (map (λ x. word x) ws) × Ordered p (word w)
  pushed [] w (each_more o os) = (each_none, o)
  pushed (x ∷ ws) w (each_more o os) =
      let (a, b) = pushed ws w os in (each_more o a, b)

  -- a word that is no collection's
  pub left_out : (w : ℕ) → (types.is_table (type_in w) || types.is_array (type_in w)) ≡ false
      → Ordered p (word w)
  left_out w h =
      let (a, b) = neither (types.is_table (type_in w)) (types.is_array (type_in w)) h in
      ordered_leaf a b

  -- the pending ones are those behind the last, and the last
  pub more_pending : (all ws : List ℕ) (w : ℕ) → all ≡ ws ++ w ∷ []
      → OrderedEach p (map (λ x. word x) ws) → Ordered p (word w)
      → OrderedEach p (map (λ x. word x) all)
  more_pending all ws w e h o =
      subst (λ xs. OrderedEach p (map (λ x. word x) xs)) (sym e) (behind ws h)
    where
      behind : (xs : List ℕ) → OrderedEach p (map (λ x. word x) xs)
          → OrderedEach p (map (λ x. word x) (xs ++ w ∷ []))
      behind [] each_none = each_more o each_none
      behind (x ∷ xs) (each_more a rest) = each_more a (behind xs rest)

  pub none_pending : (all : List ℕ) → all ≡ [] → OrderedEach p (map (λ x. word x) all)
  none_pending all e = subst (λ xs. OrderedEach p (map (λ x. word x) xs)) (sym e) each_none

-- What ascends in a resource of an opened file ascends in what is inside it.
use Rattle.std.proofs.Common.{◌≡◌, ℕ, zero, suc, List, [], ◌∷◌, Some, sym, ap, subst, map, true}
use Rattle.std.proofs.Common.{slice_get}
use Rattle.std.proofs.lemmas.Option.{same_Some}
use Rattle.resb_tree.specs.Tree.{Entries, Trees, array, table}
use Rattle.resb_format.specs.Content.{Member, word, unit, list, entry_list}
use Rattle.resb_format.specs.Denotes.{den_word}
use Rattle.resb_format.specs.Parts.{Parts}
use Rattle.resb_read.specs.Places as places
use Rattle.resb_read.specs.Resources.{DenSpot}
use Rattle.resb_read.specs.Sequences.{at_spot, at_entry}
use Rattle.resb_read.specs.Tables.{keys_ascend, last_named}
use Rattle.resb_read.specs.declared.cursor.Spot as cursor
use Rattle.resb_read.specs.declared.cursor.Spot.TheVariants as spot
use Rattle.resb_opened.specs.Ordered.{Ordered, OrderedEach, each_more}
use Rattle.resb_opened.proofs.NamedLemmas.{named_member}
use Rattle.resb_opened.proofs.OrderedLemmas.{inside_list, inside_table, ordered_at}
use Rattle.resb_c.specs.AtPlaces.{content_from}
use Rattle.resb_c.specs.Opened.{AscendsAt}
use Rattle.resb_c.proofs.OpenedLemmas.{none_some}

-- what ascends at a member ascends at its spot
pub at_member : (p : Parts) (m : Member) → Ordered p m → AscendsAt p (places.spot_of m)
at_member p (word w) o = o
at_member p (unit u) o = o

-- a number of a vector has no tables
pub at_number : (p : Parts) (s : cursor.Spot) (n : ℕ) → s ≡ spot.Word n → AscendsAt p s
at_number p s n is = subst (AscendsAt p) (sym is) tt

module _ (p : Parts) where
  -- the members of an array
  pub in_members : (s : cursor.Spot) (ms : List Member) (ts : Trees) (n : ℕ)
      → content_from p s ≡ Some (list ms) → DenSpot p s (array ts) n → AscendsAt p s
      → OrderedEach p ms
  in_members (spot.Descriptor w) ms ts n e d o =
      inside_list p (word w) ts ms e ∣ (n, den_word d) ∣₁ o
  in_members (spot.Unit u) ms ts n e d o = inside_list p (unit u) ts ms e ∣ (n, d) ∣₁ o
  in_members (spot.Word k) ms ts n e d o = absurd d
  in_members (spot.Key k) ms ts n e d o = absurd d

  -- each of them
  pub in_member : (s : cursor.Spot) (ms : List Member) (ts : Trees) (n : ℕ)
      → content_from p s ≡ Some (list ms) → DenSpot p s (array ts) n → AscendsAt p s → (k : ℕ)
      (m : Member) → slice_get ms k ≡ Some m → AscendsAt p (places.spot_of m)
  in_member s ms ts n e d o k m at =
      at_member p m (ordered_at p ms (in_members s ms ts n e d o) k m at)

  -- the keys and the values of a table
  pub in_entries : (s : cursor.Spot) (es : List (ℕ × Member)) (us : Entries) (n : ℕ)
      → content_from p s ≡ Some (entry_list es) → DenSpot p s (table us) n → AscendsAt p s
      → (keys_ascend (map (at_entry p) es) ≡ true) × OrderedEach p (map (λ e. e.1) es)
  in_entries (spot.Descriptor w) es us n e d o =
      inside_table p (word w) us es e ∣ (n, den_word d) ∣₁ o
  in_entries (spot.Unit u) es us n e d o = inside_table p (unit u) us es e ∣ (n, d) ∣₁ o
  in_entries (spot.Word k) es us n e d o = absurd d
  in_entries (spot.Key k) es us n e d o = absurd d

  entry_ordered : (es : List (ℕ × Member)) → OrderedEach p (map (λ e. e.1) es) → (k : ℕ)
      (y : ℕ × Member) → slice_get es k ≡ Some y → Ordered p y.1
  entry_ordered [] each zero y h = absurd (none_some h)
  entry_ordered [] each (suc k) y h = absurd (none_some h)
  entry_ordered (x ∷ es) (each_more o os) zero y h =
      subst (λ z. Ordered p z.1) (same_Some x y h) o
  entry_ordered (x ∷ es) (each_more o os) (suc k) y h = entry_ordered es os k y h

  -- each of the values
  pub in_entry : (s : cursor.Spot) (es : List (ℕ × Member)) (us : Entries) (n : ℕ)
      → content_from p s ≡ Some (entry_list es) → DenSpot p s (table us) n → AscendsAt p s
      → (k : ℕ) (y : ℕ × Member) → slice_get es k ≡ Some y → AscendsAt p (places.spot_of y.1)
  in_entry s es us n e d o k y at =
      at_member p y.1 (entry_ordered es (in_entries s es us n e d o).1 k y at)

  -- the value of a name
  pub in_named : (name : List ℕ) (es : List (ℕ × Member)) (s : cursor.Spot)
      → last_named name (map (at_entry p) es) ≡ Some (at_spot p s)
      → OrderedEach p (map (λ e. e.1) es) → AscendsAt p s
  in_named name es s is each =
      let (m, same, ordered) = named_member p name es (at_spot p s) is in
      subst (AscendsAt p) (sym (ap (λ q. q.at) same)) (at_member p m (ordered each))

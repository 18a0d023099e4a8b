-- What an entry's key and value cost: the key nothing, and the value one.
use Rattle.std.proofs.Common.{ℕ, ℤ, List, [], ◌∷◌, ◌≡◌, ◌≤◌, ◌==◌}
use Rattle.std.proofs.Common.{Some, map, refl, sym, ap, subst, ◌∙◌, arith}
use Rattle.std.specs.List.{All}
use Rattle.std.proofs.lemmas.List.Elements.{All-cons, All-nil}
use Rattle.std.proofs.lemmas.Option.{same_Some}
use Rattle.resb.specs.Places.{Place, spot_of}
use Rattle.resb.specs.Parts.{Parts}
use Rattle.resb.specs.Content.{Member, word, unit}
use Rattle.resb.specs.Int28.{signed}
use Rattle.resb.specs.Reading.{Lacks}
use Rattle.resb.specs.Leaves.{type_in, value_in, signed_at, key_from, bytes_from, bytes_of_type}
use Rattle.resb.specs.Leaves.{CountsOf, ReadsKey, ReadsView}
use Rattle.resb.specs.Bytes.{units_as_bytes}
use Rattle.resb.specs.Spots.{cost_at}
use Rattle.resb.specs.Sequences.{at_entry, entries_in, entries_from, entries_at}
use Rattle.resb.specs.declared.binary.Spot.{Spot}
use Rattle.resb.specs.declared.binary.Spot.TheVariants as spot
use Rattle.resb_examples.specs.Zones.{base_name, pairs_name, CountsNumber, IsReadable}
use Rattle.resb_examples.specs.Inner.Fields.{CostsAsEntry}
use Rattle.resb_examples.proofs.Lists.{some_from_mapped, counted_as, chosen_count}

-- the place of a key and that of a resource
entry_is : (p : Parts) (es : List (ℕ × Member)) → All CostsAsEntry (map (at_entry p) es)
entry_is p [] = All-nil CostsAsEntry
entry_is p (e ∷ es) =
    All-cons CostsAsEntry (at_entry p e) (map (at_entry p) es) (refl, member_costs e.1)
    (entry_is p es)
  where
    member_costs : (m : Member) → cost_at (spot_of m) ≡ 1
    member_costs (word w) = refl
    member_costs (unit u) = refl

entries_at_spot : (p : Parts) (s : Spot) (places : List (Place × Place))
    → entries_from p s ≡ Some places → All CostsAsEntry places
entries_at_spot p (spot.Descriptor w) places e =
    let (es, _, same) = some_from_mapped (map (at_entry p)) (entries_in p w) places e in
    subst (All CostsAsEntry) (sym same) (entry_is p es)
entries_at_spot p (spot.Unit u) places e = cc
entries_at_spot p (spot.Word w) places e = cc
entries_at_spot p (spot.Key k) places e = cc

pub entries_are : (p : Place) (places : List (Place × Place)) → entries_at p ≡ Some places
    → All CostsAsEntry places
entries_are p places e = entries_at_spot p.parts p.at places e

key_at_spot : (p : Parts) (s : Spot) (q : List ℕ × ℕ) → key_from p s ≡ Some q → q.1 ≡ 0
key_at_spot p (spot.Key k) q e = counted_as (λ s. s) 0 _ q e
key_at_spot p (spot.Descriptor w) q e = cc
key_at_spot p (spot.Unit u) q e = cc
key_at_spot p (spot.Word w) q e = cc

-- a key costs nothing
pub key_is_free : (p : Place) (n : ℕ) → CountsOf ReadsKey p n → n ≡ 0
key_is_free p n (x, h) = key_at_spot p.parts p.at (x, n) h.1

number_at_spot : (s : Spot) (q : ℤ × ℕ) → cost_at s ≡ 1 → signed_at s ≡ Some q → q.1 ≡ 1
number_at_spot (spot.Descriptor w) q c e =
    chosen_count (type_in w == 7) (signed (value_in w), 1) q e
number_at_spot (spot.Unit u) q c e = cc
number_at_spot (spot.Word w) q c e = absurd (omega arith)
number_at_spot (spot.Key k) q c e = cc

-- a number among a table's values costs one
pub number_costs : (p : Place) (n : ℕ) → cost_at p.at ≡ 1 → CountsNumber p n → n ≡ 1
number_costs p n c (x, h) = number_at_spot p.at (x, n) c h.1

bytes_at_spot : (p : Parts) (s : Spot) (q : List ℕ × ℕ) → cost_at s ≡ 1 → bytes_from p s ≡ Some q
    → q.1 ≡ 1
bytes_at_spot p (spot.Descriptor w) q c e =
    counted_as (λ s. s) 1 (bytes_of_type p (type_in w) (value_in w)) q e
bytes_at_spot p (spot.Unit u) q c e = counted_as units_as_bytes 1 _ q e
bytes_at_spot p (spot.Word w) q c e = absurd (omega arith)
bytes_at_spot p (spot.Key k) q c e = absurd (omega arith)

-- and so does a view
pub view_costs : (each : ℕ) (p : Place) (n : ℕ) → cost_at p.at ≡ 1 → CountsOf (ReadsView each) p n
    → n ≡ 1
view_costs each p n c (x, h) = bytes_at_spot p.parts p.at (x, n) c h.1

-- a key has one text
pub one_name : (p : Place) (x y : List ℕ) (m n : ℕ) → ReadsKey p x m → ReadsKey p y n → x ≡ y
one_name p x y m n h k =
    let P : List ℕ × ℕ → List ℕ = λ r. r.0 in ap P (same_Some _ _ (sym h.1 ∙ k.1))

-- where the value that a name asks for can't be read and paid for, the entry can't be read or
-- nothing is left
lacks_one : (counts : ℕ → Type 0) (left n : ℕ) → counts n → n ≡ 1 → Lacks counts left → left ≡ 0
lacks_one counts left n h one lacks =
    let none : 1 ≤ left → ⊥ = λ le. lacks n h (omega arith) in omega arith

module _ (e : Place
    × Place) (left : ℕ) (name : List ℕ) (k : ℕ) (is : CostsAsEntry e)
    (named : ReadsKey e.0 name k) where
  pub lacks_base : name ≡ base_name → Lacks (CountsNumber e.1) left → IsReadable e → left ≡ 0
  lacks_base same lacks h =
      let (n, there) = h.named in
      let (m, value) = h.base (one_name e.0 h.name name n k there named ∙ same) in
      lacks_one (CountsNumber e.1) left m value (number_costs e.1 m is.1 value) lacks

  pub lacks_pairs : name ≡ pairs_name → Lacks (CountsOf (ReadsView 8) e.1) left → IsReadable e
      → left ≡ 0
  lacks_pairs same lacks h =
      let (n, there) = h.named in
      let (m, value) = h.pairs (one_name e.0 h.name name n k there named ∙ same) in
      lacks_one (CountsOf (ReadsView 8) e.1) left m value (view_costs 8 e.1 m is.1 value) lacks

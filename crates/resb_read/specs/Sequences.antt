-- The members of sequences, the entries of maps, and what reading each of them gives.
--     members_at p            the places of the members of an array or a vector
--     entries_at p            the places of the keys and values of a table
use Rattle.std.specs.Prelude.{◌≡◌, ◌+◌, ◌==◌, ◌||◌, ℕ, List, [], ◌∷◌, map, Option, Some, None}
use Rattle.std.specs.Prelude.{option_map, if◌then◌else◌}
use Rattle.std.specs.BTreeMap.{insert_entry}
use Rattle.std.specs.declared.cmp.Ordering.{Ordering}
use Rattle.resb_tree.specs.Tree.{Tree, int_vector}
use Rattle.resb_format.specs.Parts.{Parts}
use Rattle.resb_format.specs.Types as types
use Rattle.resb_format.specs.Descriptor.{type_number}
use Rattle.resb_format.specs.declared.repr_type.ResourceReprType.TheVariants as kind
use Rattle.resb_format.specs.Content.{Content, Member, leaf, list, entry_list, content_at}
use Rattle.resb_read.specs.Places.{Place, spot_of}
use Rattle.resb_read.specs.Leaves.{type_in}
use Rattle.resb_read.specs.declared.cursor.Spot.{Spot}
use Rattle.resb_read.specs.declared.cursor.Spot.TheVariants as spot

-- the place of a spot in these parts
abbrev pub at_spot : Parts → Spot → Place
at_spot p s = record { parts = p; at = s }

-- the numbers of a vector; of any other tree none
abbrev pub numbers_in : Tree → Option (List Spot)
numbers_in (int_vector ns) = Some (map spot.Word ns)
numbers_in _ = None

-- the spots of a list's members or of a vector's numbers; other things have none
abbrev pub member_spots : Option Content → Option (List Spot)
member_spots (Some (list ms)) = Some (map spot_of ms)
member_spots (Some (leaf t)) = numbers_in t
member_spots _ = None

-- the spots of the members of an Array, an Array16 or an IntVector
abbrev pub members_in : Parts → ℕ → Option (List Spot)
members_in p w =
    if types.is_array (type_in w) || type_in w == type_number kind.IntVector then member_spots
    (content_at p w)
    else None

-- the places of the members at a spot: only a descriptor has any
abbrev pub members_from : Parts → Spot → Option (List Place)
members_from p (spot.Descriptor w) = option_map (map (at_spot p)) (members_in p w)
members_from p s = None

-- the places of the members of the sequence at a place
abbrev pub members_at : Place → Option (List Place)
members_at p = members_from p.parts p.at

-- a table's entries: each a key's position and a member; other things have none
abbrev pub content_entries : Option Content → Option (List (ℕ × Member))
content_entries (Some (entry_list es)) = Some es
content_entries _ = None

-- the entries of a Table, a Table16 or a table of 32-bit positions
abbrev pub entries_in : Parts → ℕ → Option (List (ℕ × Member))
entries_in p w =
    if types.is_table (type_in w) then content_entries (content_at p w) else None

-- the places of a key and its value
abbrev pub at_entry : Parts → ℕ × Member → Place × Place
at_entry p e = (at_spot p (spot.Key e.0), at_spot p (spot_of e.1))

-- the places of the keys and values of the table at this spot, if one stands there
abbrev pub entries_from : Parts → Spot → Option (List (Place × Place))
entries_from p (spot.Descriptor w) = option_map (map (at_entry p)) (entries_in p w)
entries_from p s = None

-- the places of the keys and values of the table at this place, if one stands there
abbrev pub entries_at : Place → Option (List (Place × Place))
entries_at p = entries_from p.parts p.at

-- each place is read to the value beside it, and n is the sum of the counts
abbrev pub ReadsEach : {P X : Type 0} → (P → X → ℕ → Type 0) → List P → List X → ℕ → Type 0
ReadsEach reads [] [] n = n ≡ 0
ReadsEach reads (p ∷ ps) (x ∷ xs) n =
    (a : ℕ) × (b : ℕ) × reads p x a × ReadsEach reads ps xs b × (n ≡ a + b)
ReadsEach reads _ _ n = ⊥

-- n is the sum of a count at each place
abbrev pub CountsEach : {P : Type 0} → (P → ℕ → Type 0) → List P → ℕ → Type 0
CountsEach counts [] n = n ≡ 0
CountsEach counts (p ∷ ps) n = (a : ℕ) × (b : ℕ) × counts p a × CountsEach counts ps b × (n ≡ a + b)

-- what holds other places stands there, and n is one more than what they take
pub record Collects {P : Type 0} (there : Option (List P)) (takes : List P → ℕ → Type 0) (n : ℕ)
    : Type 0 where
  pub places : List P
  pub total : ℕ
  pub are : there ≡ Some places
  pub each : takes places total
  pub count : n ≡ 1 + total

-- a sequence stands there, whose members are read to xs; it counts as one besides them
abbrev pub ReadsSeq : {X : Type 0} → (Place → X → ℕ → Type 0) → Place → List X → ℕ → Type 0
ReadsSeq reads p xs n = Collects (members_at p) (λ places total. ReadsEach reads places xs total) n

-- a sequence stands there, each of whose members has a count; it counts as one besides them
abbrev pub CountsSeq : (Place → ℕ → Type 0) → Place → ℕ → Type 0
CountsSeq counts p n = Collects (members_at p) (CountsEach counts) n

-- a key and a value are read at the places of an entry, and n is the sum of their counts
abbrev pub ReadsEntry : {K X : Type 0} → (Place → K → ℕ → Type 0) → (Place → X → ℕ → Type 0)
    → Place × Place → K × X → ℕ → Type 0
ReadsEntry key value p e n = (a : ℕ) × (b : ℕ) × key p.0 e.0 a × value p.1 e.1 b × (n ≡ a + b)

-- the sum of the counts of a key and its value
abbrev pub CountsEntry : (Place → ℕ → Type 0) → (Place → ℕ → Type 0) → Place × Place → ℕ → Type 0
CountsEntry key value p n = (a : ℕ) × (b : ℕ) × key p.0 a × value p.1 b × (n ≡ a + b)

-- the entries put in one after another: the last value of an equal key stands
abbrev pub put_each : {K X : Type 0} → (K → K → Ordering) → List (K × X) → List (K × X)
    → List (K × X)
put_each cmp m [] = m
put_each cmp m (e ∷ es) = put_each cmp (insert_entry cmp m e.0 e.1) es

-- each entry is read, and the map has them put in one after another
abbrev pub ReadsAll : {K X : Type 0} → (K → K → Ordering) → (Place → K → ℕ → Type 0)
    → (Place → X → ℕ → Type 0) → List (Place × Place) → List (K × X) → ℕ → Type 0
ReadsAll {K} {X} cmp key value places m n =
    (es : List (K × X)) × ReadsEach (ReadsEntry key value) places es n × (m ≡ put_each cmp [] es)

-- a table stands there, whose entries are read to a map; it counts as one besides them
abbrev pub ReadsMap : {K X : Type 0} → (K → K → Ordering) → (Place → K → ℕ → Type 0)
    → (Place → X → ℕ → Type 0) → Place → List (K × X) → ℕ → Type 0
ReadsMap cmp key value p m n =
    Collects (entries_at p) (λ places total. ReadsAll cmp key value places m total) n

-- a table stands there, each of whose entries has a count; it counts as one besides them
abbrev pub CountsMap : (Place → ℕ → Type 0) → (Place → ℕ → Type 0) → Place → ℕ → Type 0
CountsMap key value p n = Collects (entries_at p) (CountsEach (CountsEntry key value)) n

-- The collections that are still to be looked at for keys that don't ascend.
use Rattle.std.specs.Prelude.{◌≡◌, ◌≤◌, ◌+◌, ◌||◌, ℕ, Bool, true, List, [], ◌∷◌, map}
use Rattle.resb_format.specs.Content.{Member, word}
use Rattle.resb_format.specs.Parts.{Parts}
use Rattle.resb_format.specs.Types as types
use Rattle.resb_read.specs.Leaves.{type_in}
use Rattle.resb_walk.specs.Inner.Members.{members_of, keyed_members}
use Rattle.resb_walk.specs.declared.members.Rest.{Rest}
use Rattle.resb_walk.specs.declared.members.Rest.TheVariants as rest
use Rattle.resb_opened.specs.Ordered.{Ordered, OrderedEach, collections_in, collections_of}
use Rattle.resb_opened.specs.Ordered.{key_price, price_of_each}

-- the members, or the values of the entries, that are still to come
abbrev pub rest_members : Rest → List Member
rest_members (rest.List ms) = members_of ms
rest_members (rest.Table es) = map (λ e. e.1) (keyed_members es)

-- a word's type is one of a table or of an array
abbrev pub is_collection : ℕ → Bool
is_collection w = types.is_table (type_in w) || types.is_array (type_in w)

-- so are those of these words
abbrev pub AreCollections : List ℕ → Type 0
AreCollections [] = Unit {0}
AreCollections (w ∷ ws) = (is_collection w ≡ true) × AreCollections ws

-- the keys ascend in each of these members, of which so many collections are looked at, at a price
abbrev pub FitsEach : Parts → List Member → ℕ → ℕ → Type 0
FitsEach p ms most room =
    (os : OrderedEach p ms) × (collections_of p os ≤ most) × (price_of_each p os ≤ room)

-- what was pending and these members are pending now, and looking at them takes no more
abbrev pub PendsMore : Parts → List ℕ → List ℕ → List Member → Type 0
PendsMore p old new ms =
    (os : OrderedEach p (map (λ w. word w) old)) (rs : OrderedEach p ms)
    → FitsEach p (map (λ w. word w) new) (collections_of p os + collections_of p rs)
    (price_of_each p os + price_of_each p rs)

-- what is inside a collection fits in what is left of a room, once the collection is looked at
abbrev pub FitsInside : (p : Parts) {m : Member} → Ordered p m → List Member → ℕ → ℕ → Type 0
FitsInside p o ms old new =
    (os : OrderedEach p ms) × (collections_of p os + 1 ≤ collections_in p o)
    × (price_of_each p os + old ≤ key_price p o + new)

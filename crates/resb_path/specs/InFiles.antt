-- What stands at a path in a file, without its tree.
--     place_inside p name     where what has a name inside a place stands
--     place_at p names        where a path leads
--     Holds p, HoldsOnWay p names     a place can be gone into, and each on a path's way can
--     FailsAt p e, FailsOnWay p names e   why nothing is said of a place, and of a path
--     OneAnswerOfAPath        a path isn't both followed and refused
--     IsAt p s                what a path leads to in a tree stands at this place
--     AreFound p s            the one stands at the other, or there is neither
--     LeadsOn p names r, LeadsOnWith w names r    what is answered for a path in a file
--     AnswersPath denotes names r     that it is what stands in the tree, where one is denoted
use Rattle.std.specs.Prelude.{◌≡◌, ◌==◌, ◌||◌, ◌⊎◌, ℕ, List, [], ◌∷◌, Option, Some, None, Result}
use Rattle.std.specs.Prelude.{◌≢◌}
use Rattle.std.specs.Prelude.{true, Ok, Err, MatchResult, option_map, slice_get, if◌then◌else◌}
use Rattle.std.specs.Option.{option_and_then}
use Rattle.resb_tree.specs.Tree.{Tree}
use Rattle.resb_format.specs.Error.{refusal_of}
use Rattle.resb_format.specs.Types as types
use Rattle.resb_format.specs.Descriptor.{type_number}
use Rattle.resb_format.specs.declared.repr_type.ResourceReprType.TheVariants as kind
use Rattle.resb_format.specs.declared.error.ReadingError.{ReadingError}
use Rattle.resb_walk.specs.BlockRefusals.{Says}
use Rattle.resb_read.specs.Places.{Place, place_of}
use Rattle.resb_read.specs.PlaceRefusals.{untold, entries_refusal, members_refusal}
use Rattle.resb_read.specs.Resources.{DenPlace}
use Rattle.resb_read.specs.Roots.{Whole, place_of_root}
use Rattle.resb_read.specs.Sequences.{entries_at, members_at}
use Rattle.resb_read.specs.Spots.{type_at, IsWordSpot}
use Rattle.resb_read.specs.Tables.{last_named}
use Rattle.resb_read.specs.declared.cursor.Cursor.{Cursor}
use Rattle.resb_read.specs.declared.cursor.Spot.TheVariants as spot
use Rattle.resb_path.specs.Finding.{Spot, tree_spot, number_spot, number_said, found_at}

-- where the last entry of a name stands in a table of this type, and the member of the number that
-- a name says in an array or a vector; a place of another type has nothing inside
abbrev pub inside_type : ℕ → Place → List ℕ → Option Place
inside_type type p name =
    if types.is_table type then option_and_then (last_named name) (entries_at p)
    else if types.is_array type || type == type_number kind.IntVector
    then option_and_then (λ k. option_and_then (λ ps. slice_get ps k) (members_at p))
    (number_said name)
    else None

-- where what has a name inside a place stands, by the type that stands there
abbrev pub place_inside : Place → List ℕ → Option Place
place_inside p name = option_and_then (λ type. inside_type type p name) (type_at p)

-- where a path leads from a place
abbrev pub place_at : Place → List (List ℕ) → Option Place
place_at p [] = Some p
place_at p (name ∷ names) = option_and_then (λ q. place_at q names) (place_inside p name)

-- in a place of this type, a table's entries lie inside the file, and so do the members of an array
-- or a vector; nothing is inside a place of another type
abbrev pub HoldsInside : ℕ → Place → Type 0
HoldsInside type p =
    (types.is_table type ≡ true → entries_at p ≢ None)
    × ((types.is_array type || type == type_number kind.IntVector) ≡ true → members_at p ≢ None)

-- a number of a vector stands at a place, or a resource whose type is read, and what is inside it
-- lies inside the file
abbrev pub Holds : Place → Type 0
Holds p =
    IsWordSpot p.at ⊎ ((type : ℕ) × (type_at p ≡ Some type) × HoldsInside type p)

-- so it is with each place on the way of a path, into which a name of it leads
abbrev pub HoldsOnWay : Place → List (List ℕ) → Type 0
HoldsOnWay p [] = Unit {0}
HoldsOnWay p (name ∷ names) =
    Holds p × ((q : Place) → place_inside p name ≡ Some q → HoldsOnWay q names)

-- the entries of a table, or the members of an array or a vector, lie outside the file
abbrev pub FailsInside : ℕ → Place → ReadingError → Type 0
FailsInside type p e =
    ((types.is_table type ≡ true) × (entries_at p ≡ None) × Says (entries_refusal p 1) e)
    ⊎ (((types.is_array type || type == type_number kind.IntVector) ≡ true) × (members_at p ≡ None)
    × Says (members_refusal p 1) e)

-- a resource stands at a place whose type isn't read, or what is inside it lies outside the file
abbrev pub FailsAt : Place → ReadingError → Type 0
FailsAt p e =
    ((IsWordSpot p.at → ⊥) × (type_at p ≡ None) × Says (untold p) e)
    ⊎ ((type : ℕ) × (type_at p ≡ Some type) × FailsInside type p e)

-- so a place on the way of a path fails, and none before it
abbrev pub FailsOnWay : Place → List (List ℕ) → ReadingError → Type 0
FailsOnWay p [] e = ⊥
FailsOnWay p (name ∷ names) e =
    FailsAt p e ⊎ ((q : Place) × (place_inside p name ≡ Some q) × FailsOnWay q names e)

-- a path on whose way each place holds has none there that fails
abbrev pub OneAnswerOfAPath : Type 0
OneAnswerOfAPath =
    (p : Place) (names : List (List ℕ)) (e : ReadingError) → HoldsOnWay p names
    → FailsOnWay p names e → ⊥

-- where a path leads, if no place on its way fails; else why that isn't said
abbrev pub LeadsOn : Place → List (List ℕ) → Result (Option Cursor) ReadingError → Type 0
LeadsOn p names (Ok c) = (option_map place_of c ≡ place_at p names) × HoldsOnWay p names
LeadsOn p names (Err e) = FailsOnWay p names e

-- what a step of a path is answered
abbrev pub LeadsIn : Place → List ℕ → Result (Option Cursor) ReadingError → Type 0
LeadsIn p name (Ok c) = (option_map place_of c ≡ place_inside p name) × Holds p
LeadsIn p name (Err e) = FailsAt p e

-- the first check of the head that fails; or where a path leads from the root of a file beside the
-- pool bundle that is given, if one is, if no place on its way fails; or why that isn't said
abbrev pub LeadsOnWith : Whole → List (List ℕ) → Result (Option Cursor) ReadingError → Type 0
LeadsOnWith w names (Ok c) =
    (w.refusal ≡ None) × (option_map place_of c ≡ place_at (place_of_root w) names)
    × HoldsOnWay (place_of_root w) names
LeadsOnWith w names (Err e) =
    (w.refusal ≡ Some (refusal_of e))
    ⊎ ((w.refusal ≡ None) × FailsOnWay (place_of_root w) names e)

-- the place denotes the tree, with some count, or is that of the vector's number
abbrev pub IsAt : Place → Spot → Type 0
IsAt p (tree_spot t) = (n : ℕ) × DenPlace p t n
IsAt p (number_spot m) = p.at ≡ spot.Word m

-- there is a place, and what was found stands there; or there is neither
abbrev pub AreFound : Option Place → Option Spot → Type 0
AreFound (Some p) (Some s) = IsAt p s
AreFound None None = Unit {0}
AreFound _ _ = ⊥

-- where a tree is denoted, by a place or by a file, the answer is no refusal: it is the place of
-- what stands in the tree at these names, or none where nothing does
abbrev pub AnswersPath : (Tree → ℕ → Type 0) → List (List ℕ) → Result (Option Cursor) ReadingError
    → Type 0
AnswersPath denotes names r = (t : Tree) (n : ℕ) → denotes t n
    → MatchResult r (λ c. AreFound (option_map place_of c) (found_at (tree_spot t) names)) (λ e. ⊥)

-- What stands at a path of names in a tree.
--     is_adorned name      a plus stands first, or a zero before more
--     number_said name     the number that a name says, if it says one
--     found_inside s name  what stands inside, under one name
--     found_at s names     what stands at a path of names
use Rattle.std.specs.Prelude.{ℕ, ◌^◌, nat_lt, Bool, true, ◌&&◌, ◌||◌, ◌==◌, List}
use Rattle.std.specs.Prelude.{[], ◌∷◌, length, slice_index, Option, Some, None, option_map}
use Rattle.std.specs.Prelude.{slice_get, if◌then◌else◌}
use Rattle.std.specs.Option.{option_and_then}
use Rattle.std.specs.Char.{is_digit}
use Rattle.std.specs.Str.Parse.{digits_value}
use Rattle.resb_tree.specs.Tree.{Tree, Trees, array, table, int_vector}
use Rattle.resb_tree.specs.LayingOrder.{array_members}
use Rattle.resb_tree.specs.Maps.{get}
use Rattle.resb_tree.specs.View.{tree_of}
use Rattle.resb_path.specs.declared.tree.Found.{Found}
use Rattle.resb_path.specs.declared.tree.Found.TheVariants as found

-- what a path leads to: a tree, or a number of a vector
pub data Spot : Type 0 where
  tree_spot : Tree → Spot
  number_spot : ℕ → Spot

-- what the program's answer stands for
abbrev pub spot_of : Found → Spot
spot_of (found.Resource r) = tree_spot (tree_of r.now)
spot_of (found.Number n) = number_spot n

-- each byte is a decimal digit
abbrev pub are_digits : List ℕ → Bool
are_digits [] = true
are_digits (b ∷ bs) = is_digit b 10 && are_digits bs

-- the number that digits write, if it is less than 2^64
abbrev pub number_written : List ℕ → Option ℕ
number_written [] = None
number_written (b ∷ bs) =
    if are_digits (b ∷ bs) && nat_lt (digits_value 10 (b ∷ bs)) (2 ^ 64)
    then Some (digits_value 10 (b ∷ bs))
    else None

-- a plus sign stands first, or a zero before more
abbrev pub is_adorned : List ℕ → Bool
is_adorned name =
    slice_index name 0 == 43 || (slice_index name 0 == 48 && nat_lt 1 (length name))

-- the number that a name says: decimal digits of a number below 2^64, the way it is commonly
-- written, without a sign and without a zero before other digits
abbrev pub number_said : List ℕ → Option ℕ
number_said name = if is_adorned name then None else number_written name

-- the member of an array that has the number that a name says
abbrev pub member_said : Trees → List ℕ → Option Tree
member_said ts name = option_and_then (slice_get (array_members ts)) (number_said name)

-- the number of a vector that has the number that a name says
abbrev pub element_said : List ℕ → List ℕ → Option ℕ
element_said ns name = option_and_then (slice_get ns) (number_said name)

-- what stands inside a tree under one name: in a table the tree of the entry of this name, in an
-- array or a vector what has this number; and nothing inside all else. An alias isn't followed
abbrev pub found_inside : Spot → List ℕ → Option Spot
found_inside (tree_spot (table es)) name = option_map tree_spot (get name es)
found_inside (tree_spot (array ts)) name = option_map tree_spot (member_said ts name)
found_inside (tree_spot (int_vector ns)) name = option_map number_spot (element_said ns name)
found_inside _ name = None

-- what stands at a path of names, one inside the other
abbrev pub found_at : Spot → List (List ℕ) → Option Spot
found_at s [] = Some s
found_at s (name ∷ names) = option_and_then (λ t. found_at t names) (found_inside s name)

-- What is still to be compared of two trees, and whether all of it is equal.
use Rattle.std.specs.Prelude.{ℕ, ◌+◌, Bool, true, ◌&&◌, List, [], ◌∷◌}
use Rattle.std.specs.Slice.Iter.{iter_rest}
use Rattle.resb_tree.specs.Equality.{tree_eq, trees_eq, entries_eq}
use Rattle.resb_tree.specs.Tree.{trees_count, entries_count}
use Rattle.resb_tree.specs.View.{tree_of, items_view, entries_view}
use Rattle.resb_tree.specs.Inner.Dropping.{count}
use Rattle.resb_tree.specs.declared.equality.Open.{Open}
use Rattle.resb_tree.specs.declared.equality.Open.TheVariants.{Arrays, Tables}
use Rattle.resb_tree.specs.declared.equality.Items.{Items}
use Rattle.resb_tree.specs.declared.equality.Entries.{Entries}
use Rattle.resb_tree.specs.declared.equality.Next.{Next}
use Rattle.resb_tree.specs.declared.equality.Next.TheVariants.{Both, Ended}
use Rattle.resb_tree.specs.declared.equality.Seen.{Seen}
use Rattle.resb_tree.specs.declared.equality.Seen.TheVariants.{Collections, Decided}

-- whether what is still to come of two arrays is equal
abbrev pub items_eq : Items → Bool
items_eq p = trees_eq (items_view (iter_rest p.one)) (items_view (iter_rest p.other))

-- the same of two tables
abbrev pub pairs_eq : Entries → Bool
pairs_eq p = entries_eq (entries_view p.one) (entries_view p.other)

-- how many resources are still to come of the first of two arrays
abbrev pub items_to_come : Items → ℕ
items_to_come p = trees_count (items_view (iter_rest p.one))

-- the same of the first of two tables
abbrev pub pairs_to_come : Entries → ℕ
pairs_to_come p = entries_count (entries_view p.one)

-- whether what is still to come of two collections is equal
abbrev pub open_eq : Open → Bool
open_eq (Arrays items) = items_eq items
open_eq (Tables entries) = pairs_eq entries

-- how many resources are still to come of the first of two collections
abbrev pub to_come : Open → ℕ
to_come (Arrays items) = items_to_come items
to_come (Tables entries) = pairs_to_come entries

-- whether the next two members are equal, and so is the rest
abbrev pub next_and : Next → Bool → Bool
next_and (Both x y) rest = tree_eq (tree_of x.now) (tree_of y.now) && rest
next_and (Ended equal) rest = equal

-- how many resources the first of the next two members is
abbrev pub next_count : Next → ℕ
next_count (Both x y) = count x.now
next_count (Ended equal) = 0

-- whether two resources that were looked at are equal
abbrev pub seen_eq : Seen → Bool
seen_eq (Collections pair) = open_eq pair
seen_eq (Decided equal) = equal

-- the same, and whether the rest is equal too, where that isn't decided
abbrev pub seen_and : Seen → Bool → Bool
seen_and (Collections pair) rest = open_eq pair && rest
seen_and (Decided equal) rest = equal

-- how many resources the first of two collections is, itself included
abbrev pub seen_count : Seen → ℕ
seen_count (Collections pair) = to_come pair + 1
seen_count (Decided equal) = 0

-- whether what is still to come of all collections of a list is equal
abbrev pub all_eq : List Open → Bool
all_eq [] = true
all_eq (o ∷ os) = open_eq o && all_eq os

-- how many steps the collections of a list take: one for each, and two for each resource
abbrev pub all_steps : List Open → ℕ
all_steps [] = 0
all_steps (o ∷ os) = (to_come o + to_come o + 1) + all_steps os

-- Words of the functions of packages.
--     role_by_count i n       the role of a word, by the number of items
--     EndsAtZero f m n e      the last zero byte between two places stands before this one
--     Swapping f rs to n      the package so far
use Rattle.std.specs.Prelude.{◌≡◌, ◌≢◌, ℕ, ◌+◌, ◌*◌, ◌<◌, ◌≤◌, List, length, nat_le, slice_index}
use Rattle.std.specs.Prelude.{if◌then◌else◌}
use Rattle.resb_swap.specs.Numbers.{Numbered, byte_in}
use Rattle.resb_swap.specs.Swapped.{mirrored_byte}
use Rattle.resb_swap.specs.Packages.{item_count, item_place, item_of, IsItemInPlace}
use Rattle.resb_swap.specs.Packages.{IsNameInPlace, IsSwappedItem}
use Rattle.resb_swap.specs.declared.role.Role.{Role}
use Rattle.resb_swap.specs.declared.role.Role.TheVariants as role

-- the role of a word, by how many items there are
abbrev pub role_by_count : ℕ → ℕ → Role
role_by_count i n = if nat_le i (2 * n) then role.Words else role.Free

-- the last zero byte between two places stands right before this one, and none is there where it is
-- the first
pub record EndsAtZero (f : Numbered) (from to e : ℕ) : Type 0 where
  pub low : from ≤ e
  pub high : e ≤ to
  pub is_zero : (z : ℕ) → z + 1 ≡ e → from ≤ z → byte_in f z ≡ 0
  pub none_behind : (z : ℕ) → e ≤ z → z < to → byte_in f z ≢ 0

-- all items are where they belong
abbrev pub AreItemsInPlace : Numbered → Type 0
AreItemsInPlace f = (i : ℕ) → i < item_count f → IsItemInPlace f i

-- all names are
abbrev pub AreNamesInPlace : Numbered → Type 0
AreNamesInPlace f = (i : ℕ) → i < item_count f → IsNameInPlace f i

-- the package up to an item: what stands before all items is mirrored, and the items so far are
-- files in the other order
pub record Swapping (f : Numbered) (rs : List Role) (to : List ℕ) (n : ℕ) : Type 0 where
  pub as_long : length to ≡ f.start + item_place f n
  pub front : (p : ℕ) → p < f.start + item_place f 0 → slice_index to p ≡ mirrored_byte rs f.bytes p
  pub items : (i : ℕ) → i < n
      → IsSwappedItem (slice_index f.bytes 8) (item_of f f.bytes i) (item_of f to i)

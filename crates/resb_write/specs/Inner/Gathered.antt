-- What is gathered from resources.
--     entry_count_of t, largest_of ts     entries of a table, of the largest among ts
--     units_in ss, bytes_in ss, other_size t   of texts, and of what is no string
--     Gathered ts c                       c is what the resources ts hold
use Rattle.std.specs.Prelude.{◌≡◌, ℕ, ◌+◌, ◌-◌, ◌^◌, ◌≤◌, List, [], ◌∷◌, length, min, max}
use Rattle.std.specs.List.{list_any, flat_map, sum_by}
use Rattle.resb_tree.specs.Tree.{Tree, string, table, entries_len}
use Rattle.resb_pool.specs.Plan.{nows, first_too_long}
use Rattle.resb_tree.specs.LayingOrder.{text_in}
use Rattle.resb_format.specs.Units.{units}
use Rattle.resb_layout.specs.PlainSize.{held_size}
use Rattle.resb_layout.specs.TreeFaults.{is_over_32_bits}
use Rattle.resb_write.specs.declared.contents.Contents.{Contents}

abbrev pub entry_count_of : Tree → ℕ
entry_count_of (table es) = entries_len es
entry_count_of _ = 0

abbrev pub largest_of : List Tree → ℕ
largest_of [] = 0
largest_of (t ∷ ts) = max (entry_count_of t) (largest_of ts)

-- the units of texts, and their bytes
abbrev pub units_in : List (List ℕ) → ℕ
units_in ss = sum_by (λ s. length (units s)) ss

abbrev pub bytes_in : List (List ℕ) → ℕ
bytes_in ss = sum_by (λ s. length s) ss

-- what a resource holds that is no string
abbrev pub other_size : Tree → ℕ
other_size (string s) = 0
other_size t = held_size t

pub record Gathered (ts : List Tree) (c : Contents) : Type 0 where
  pub texts_are : nows c.texts.items ≡ flat_map text_in ts
  pub size_is : c.size ≡ min (sum_by (λ t. 16 + other_size t) ts) (2 ^ 64 - 1)
  pub bytes_are : min c.text_bytes (2 ^ 64 - 1) ≡ min (bytes_in (flat_map text_in ts)) (2 ^ 64 - 1)
  pub bytes_suffice : units_in (flat_map text_in ts) ≤ bytes_in (flat_map text_in ts)
  pub largest_is : c.largest_table ≡ largest_of ts
  pub too_long_is : c.too_long ≡ first_too_long (flat_map text_in ts)
  pub over_is : c.has_count_over_32_bits ≡ list_any is_over_32_bits ts

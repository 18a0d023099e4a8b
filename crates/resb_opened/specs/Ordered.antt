-- Whether the keys of all tables in a part of a file ascend.
--     Ordered p m     they do in what stands at the member m of a file with the parts p
--     collections_in o, key_price o   how many tables and arrays are looked at for that, and what is
--                     paid for reading the keys
use Rattle.std.specs.Prelude.{◌≡◌, ℕ, ◌+◌, List, [], ◌∷◌, map, true, false, Some}
use Rattle.resb_format.specs.Content.{Member, word, unit, list, entry_list, content_at}
use Rattle.resb_format.specs.Parts.{Parts}
use Rattle.resb_format.specs.Types as types
use Rattle.resb_read.specs.Leaves.{type_in}
use Rattle.resb_read.specs.Sequences.{at_entry}
use Rattle.resb_read.specs.Tables.{keys_ascend, price_of}

module _ (p : Parts) where
  mutual
    -- a string of a short collection has no tables, and what is neither a table nor an array by its
    -- type; an array has those of its members; a table has those of its values, and its own keys
    -- ascend
    pub data Ordered : Member → Type 0 where
      ordered_unit : {u : ℕ} → Ordered (unit u)
      ordered_leaf : {w : ℕ} → types.is_table (type_in w) ≡ false
          → types.is_array (type_in w) ≡ false → Ordered (word w)
      ordered_list : {w : ℕ} {ms : List Member} → content_at p w ≡ Some (list ms)
          → OrderedEach ms → Ordered (word w)
      ordered_entries : {w : ℕ} {es : List (ℕ × Member)} → content_at p w ≡ Some (entry_list es)
          → keys_ascend (map (at_entry p) es) ≡ true → OrderedEach (map (λ e. e.1) es)
          → Ordered (word w)

    -- the same of each of these members
    pub data OrderedEach : List Member → Type 0 where
      each_none : OrderedEach []
      each_more : {m : Member} {ms : List Member} → Ordered m → OrderedEach ms
          → OrderedEach (m ∷ ms)

  abbrev mutual
    -- how many tables and arrays stand there, each as often as it is reached
    pub collections_in : {m : Member} → Ordered m → ℕ
    collections_in ordered_unit = 0
    collections_in (ordered_leaf a b) = 0
    collections_in (ordered_list e os) = 1 + collections_of os
    collections_in (ordered_entries e k os) = 1 + collections_of os

    -- the same of several members
    pub collections_of : {ms : List Member} → OrderedEach ms → ℕ
    collections_of each_none = 0
    collections_of (each_more o os) = collections_in o + collections_of os

  abbrev mutual
    -- what is paid for reading the keys of all tables there: one for each 16 bytes of a key, as
    -- often as it is reached
    pub key_price : {m : Member} → Ordered m → ℕ
    key_price ordered_unit = 0
    key_price (ordered_leaf a b) = 0
    key_price (ordered_list e os) = price_of_each os
    key_price (ordered_entries {w} {es} e k os) = price_of (map (at_entry p) es) + price_of_each os

    -- the same of several members
    pub price_of_each : {ms : List Member} → OrderedEach ms → ℕ
    price_of_each each_none = 0
    price_of_each (each_more o os) = key_price o + price_of_each os

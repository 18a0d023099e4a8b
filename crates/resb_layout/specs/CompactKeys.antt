-- The key block of a compact file: a key that is the end of others lies in one of them. (ICU's
-- `genrb` lays keys so.)
--     container js k          in which of the keys js the key k lies
--     kept js                 the keys of js that lie in themselves
--     end_position js k       where k stands, if it is one of the keys js
--     keys_by q js, position_by q js k    which of the keys js stand in the key block of a file
--                             that is packed like this, and where k stands in it
--     key_block_by q t ks     the key block of a tree with the keys of a list
--     key_position_by q t ks k    where k stands in such a file
use Rattle.std.specs.Prelude.{ℕ, ◌+◌, ◌-◌, List, [], ◌∷◌, length, filter, reverse, nat_eq}
use Rattle.std.specs.Prelude.{Option, None, option_map, if◌then◌else◌}
use Rattle.std.specs.List.{ends_with}
use Rattle.std.specs.Ordering.{is_lt}
use Rattle.resb_tree.specs.Keys.{same_text}
use Rattle.resb_tree.specs.Maps.{text_cmp}
use Rattle.resb_tree.specs.LayingOrder.{keys_of}
use Rattle.resb_tree.specs.Tree.{Tree}
use Rattle.resb_layout.specs.KeyBlock.{is_among, used, key_bytes, padded, last_place, keys_start}
use Rattle.resb_layout.specs.KeyBlock.{position_in}
use Rattle.resb_pool.specs.declared.packing.Packing.{Packing}
use Rattle.resb_pool.specs.declared.packing.Packing.TheVariants.{Plain, Compact}

-- of two keys the greater one, by their bytes from the last to the first
abbrev pub greater_end : List ℕ → List ℕ → List ℕ
greater_end i j = if is_lt (text_cmp (reverse j) (reverse i)) then i else j

-- the greatest, in that order, of the key k and the keys of the list that end with it
abbrev pub container : List (List ℕ) → List ℕ → List ℕ
container [] k = k
container (j ∷ js) k =
    if ends_with nat_eq j k then greater_end j (container js k) else container js k

-- the keys that are their own containers, in the list's order: no other key ends with one of them
abbrev pub kept : List (List ℕ) → List (List ℕ)
kept js = filter (λ k. same_text k (container js k)) js

-- the position of one of the keys: that of its container, which stands among the kept ones, and so
-- many bytes more that the key ends where its container ends
abbrev pub end_position : List (List ℕ) → List ℕ → Option ℕ
end_position js k =
    if is_among js k then option_map (λ n. keys_start + n + (length (container js k) - length k))
    (last_place (container js k) (kept js))
    else None

-- which of the used keys stand in the key block
abbrev pub keys_by : Packing → List (List ℕ) → List (List ℕ)
keys_by Plain js = js
keys_by Compact js = kept js

-- the position of a key, if it has one among the used keys
abbrev pub position_by : Packing → List (List ℕ) → List ℕ → Option ℕ
position_by Plain = position_in
position_by Compact = end_position

-- the key block of a tree with the keys of a list, filled to a word
abbrev pub key_block_by : Packing → Tree → List (List ℕ) → List ℕ
key_block_by q t ks = padded (key_bytes (keys_by q (used (keys_of t) ks)))

-- where a key stands in a file of a tree with the keys of a list
abbrev pub key_position_by : Packing → Tree → List (List ℕ) → List ℕ → Option ℕ
key_position_by q t ks k = position_by q (used (keys_of t) ks) k

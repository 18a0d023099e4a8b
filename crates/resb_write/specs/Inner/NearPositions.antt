-- Where keys stand, while faults are still looked for.
--     near_position n         the position of the place n, or the greatest number of 32 bits
--     IsKeyBlock us ks js ps  of used keys us and a list ks: those of the list that are used, and
--                             where the used ones stand
--     IsKeyBlockBy q us ks js ps      the same of a file that is packed like this
use Rattle.std.specs.Prelude.{◌≡◌, ℕ, ◌+◌, ◌-◌, ◌^◌, min, List, map, Option, Some, None}
use Rattle.std.specs.Prelude.{option_map, All, ◌<◌, length}
use Rattle.std.specs.Str.{IsUtf8}
use Rattle.resb_layout.specs.KeyBlock.{used, key_bytes, last_place, position_in, keys_start}
use Rattle.resb_layout.specs.CompactKeys.{keys_by, position_by}
use Rattle.resb_layout.specs.TreeFaults.{key_fault}
use Rattle.resb_pool.specs.declared.packing.Packing.{Packing}

abbrev pub near_position : ℕ → ℕ
near_position n = min (keys_start + n) (2 ^ 32 - 1)

abbrev pub near_position_in : List (List ℕ) → List ℕ → Option ℕ
near_position_in js k = option_map near_position (last_place k js)

pub record IsKeyBlock (us ks js : List (List ℕ)) (ps : List ℕ) : Type 0 where
  pub keys : js ≡ used us ks
  pub positions : map (position_in js) us ≡ map Some ps
  pub utf8 : All IsUtf8 js
  pub faultless : key_fault us js ≡ None

pub record IsKeyBlockBy (q : Packing) (us ks js : List (List ℕ)) (ps : List ℕ) : Type 0 where
  pub keys : js ≡ keys_by q (used us ks)
  pub positions : length (key_bytes (used us ks)) < 2 ^ 28
      → map (position_by q (used us ks)) us ≡ map Some ps
  pub utf8 : All IsUtf8 (used us ks)
  pub faultless : key_fault us (used us ks) ≡ None

-- Where the keys of a file stand, by how it is packed.
use Rattle.std.proofs.Common.{◌≡◌, ℕ, ◌+◌, ◌-◌, ◌≤◌, List, length, Option, Some, None, option_map}
use Rattle.std.proofs.Common.{refl, sym, subst, arith}
use Rattle.std.specs.List.{Contains}
use Rattle.std.specs.Cmp.Lexicographic.{bytes_decides}
use Rattle.resb_tree.specs.Keys.{same_text}
use Rattle.resb_layout.specs.CompactKeys.{container, kept, keys_by, position_by}
use Rattle.resb_layout.specs.KeyBlock.{used, is_among, key_bytes, last_place, keys_start}
use Rattle.resb_pool.specs.declared.packing.Packing.{Packing}
use Rattle.resb_pool.specs.declared.packing.Packing.TheVariants.{Plain, Compact}
use Rattle.resb_write.proofs.EndPlaces.{end_known, end_stands}
use Rattle.resb_write.proofs.Keys.{StandsAt, last_of-stands, place_contained}
use Rattle.resb_write.proofs.KeysBeside.{filter_room}
use Rattle.resb_write.proofs.Lists.{filter_passes, any_member}

-- the keys that stand in the block take no more room than all
pub packed_room : (q : Packing) (js : List (List ℕ))
    → length (key_bytes (keys_by q js)) ≤ length (key_bytes js)
packed_room Plain js = omega arith
packed_room Compact js = filter_room (λ k. same_text k (container js k)) js

-- a position is that of a key of the list, which stands there with a zero byte
pub record IsPlaced (q : Packing) (js : List (List ℕ)) (k : List ℕ) (at : ℕ) : Type 0 where
  pub given : Contains js k
  pub place : ℕ
  pub is : 32 + place ≡ at
  pub stands : StandsAt (key_bytes (keys_by q js)) k place

pub key_placed : (q : Packing) (js : List (List ℕ)) (k : List ℕ) (at : ℕ)
    → position_by q js k ≡ Some at → IsPlaced q js k at
key_placed Plain js k at e = by (last_place k js) refl e
  where
    by : (o : Option ℕ) → last_place k js ≡ o → option_map (λ n. keys_start + n) o ≡ Some at
        → IsPlaced Plain js k at
    by None h f = (let n : None ≡ Some at = f in cc)
    by (Some n) h f = record {
      given = place_contained k js n h;
      place = n;
      is = (let g : Some (32 + n) ≡ Some at = f in cc);
      stands = last_of-stands k js n h;
    }
key_placed Compact js k at e =
    let h = end_known js k at e in
    record {
      given = h.given;
      place = h.place + (length (container js k) - length k);
      is = omega (arith, h.is);
      stands = end_stands js k (kept js) h.place h.placed;
    }

-- what is listed and used is used
pub used_there : (us ks : List (List ℕ)) (k : List ℕ) → Contains (used us ks) k → Contains us k
used_there us ks k h =
    let m = any_member (same_text k) us (filter_passes (is_among us) ks k h).0 in
    subst (Contains us) (sym ((bytes_decides k m.0).0 m.2)) m.1

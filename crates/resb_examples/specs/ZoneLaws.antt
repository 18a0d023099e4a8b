-- The laws of zones and of tables of zones: a reading has its count, and a place has at most one.
use Rattle.std.specs.Prelude.{◌≡◌, ◌+◌, ℕ, length}
use Rattle.std.specs.Ordering.{nat_cmp}
use Rattle.std.specs.Cmp.Lexicographic.{slice_cmp}
use Rattle.std.proofs.Common.{sym, ap, ◌∙◌, arith}
use Rattle.std.proofs.lemmas.Option.{same_Some}
use Rattle.resb.specs.Places.{Place}
use Rattle.resb.specs.Leaves.{CountsOf, ReadsKey}
use Rattle.resb.specs.TypeLaws.{key_counted, key_one}
use Rattle.resb.specs.TypeLaws.{map_counted, map_one}
use Rattle.resb_examples.specs.Zones.{ReadsZone, CountsZone, ReadsZoneTable, CountsZoneTable}
use Rattle.resb_examples.specs.declared.zones.zone.Zone.{Zone}
use Rattle.resb_examples.specs.declared.zones.table.ZoneTable.{ZoneTable}

-- a zone that is read has its count
pub zone_counted : (p : Place) (z : Zone) (n : ℕ) → ReadsZone p z n → CountsZone p n
zone_counted p z n h =
    record {
      places = h.places;
      are = h.are;
      each = h.each;
      base = h.base;
      base_last = h.base_last;
      pairs = h.pairs;
      pairs_last = h.pairs_last;
      count = h.count;
    }

-- a zone has one count
pub zone_one : (p : Place) (m n : ℕ) → CountsZone p m → CountsZone p n → m ≡ n
zone_one p m n h k =
    let same : length h.places ≡ length k.places = ap length (same_Some _ _ (sym h.are ∙ k.are)) in
    let f : m ≡ 1 + length h.places = h.count in
    let g : n ≡ 1 + length k.places = k.count in omega arith

-- a table of zones that is read has its count
pub table_counted : (p : Place) (t : ZoneTable) (n : ℕ) → ReadsZoneTable p t n → CountsZoneTable p n
table_counted p t n =
    map_counted (λ q s m. ReadsKey q s.now m) ReadsZone (CountsOf ReadsKey) CountsZone
    (λ q s m. key_counted q s.now m) zone_counted (λ x y. slice_cmp nat_cmp x.now y.now)
    p t.zones.entries n

-- a table of zones has one count
pub table_one : (p : Place) (m n : ℕ) → CountsZoneTable p m → CountsZoneTable p n → m ≡ n
table_one = map_one (CountsOf ReadsKey) CountsZone key_one zone_one

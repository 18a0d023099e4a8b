-- What is laid out is appended, so what stands after it holds what stood before.
use Rattle.std.proofs.Common.{ℕ, List, [], ◌++◌, ◌≡◌, ◌<◌, length, refl, sym, ◌∙◌}
use Rattle.std.proofs.Common.{ap, append_assoc, append-nil, length-append, arith}
use Rattle.resb_tree.specs.Tree.{Tree, Trees}
use Rattle.resb_format.specs.Parts.{Parts}
use Rattle.resb_layout.specs.Laid.{Given, Laid, more_units, more_bytes, ClosesArrayBy, short_array}
use Rattle.resb_layout.specs.Laid.{long_array, ClosesTableBy, short_table, long_table, wide_table}
use Rattle.resb_layout.specs.Laid.{LaysBy, lays_integer, lays_string, lays_no_path, lays_path}
use Rattle.resb_layout.specs.Laid.{lays_no_bytes, lays_bytes, lays_no_numbers, lays_numbers}
use Rattle.resb_layout.specs.Laid.{lays_no_members, lays_members, lays_no_entries, lays_entries}
use Rattle.resb_layout.specs.Laid.{LaysEachBy, each_none, each_more}
use Rattle.resb_layout.specs.Laws.{StandsIn}
use Rattle.std.proofs.Common.{Option}
use Rattle.resb_layout.specs.Laid.{Lends}

pub record Grows (a b : Laid) : Type 0 where
  pub units : List ℕ
  pub bytes : List ℕ
  pub units_are : b.units ≡ a.units ++ units
  pub bytes_are : b.tail ≡ a.tail ++ bytes

pub grows_by_nothing : (s : Laid) → Grows s s
grows_by_nothing s = record {
  units = [];
  bytes = [];
  units_are = sym (append-nil s.units);
  bytes_are = sym (append-nil s.tail);
}

pub grows_onward : {a b c : Laid} → Grows a b → Grows b c → Grows a c
grows_onward {a} {b} {c} g h = record {
  units = g.units ++ h.units;
  bytes = g.bytes ++ h.bytes;
  units_are = h.units_are ∙ ap (λ us. us ++ h.units) g.units_are
      ∙ append_assoc a.units g.units h.units;
  bytes_are = h.bytes_are ∙ ap (λ bs. bs ++ h.bytes) g.bytes_are
      ∙ append_assoc a.tail g.bytes h.bytes;
}

pub by_units : (s : Laid) (us : List ℕ) → Grows s (more_units s us)
by_units s us = record {
  units = us;
  bytes = [];
  units_are = refl;
  bytes_are = sym (append-nil s.tail);
}

pub by_bytes : (s : Laid) (bs : List ℕ) → Grows s (more_bytes s bs)
by_bytes s bs = record {
  units = [];
  bytes = bs;
  units_are = sym (append-nil s.units);
  bytes_are = refl;
}

pub array_grows : {lent : Option Lends} {g : Given} {s : Laid} {ws : List ℕ} {e : Laid} {w : ℕ}
    → ClosesArrayBy lent g s ws e w → Grows s e
array_grows (short_array h l) = by_units _ _
array_grows (long_array at h e l n) = by_bytes _ _

pub table_grows : {lent : Option Lends} {g : Given} {s : Laid} {ps ws : List ℕ} {e : Laid} {w : ℕ}
    → ClosesTableBy lent g s ps ws e w → Grows s e
table_grows (short_table n h l) = by_units _ _
table_grows (long_table at n h e l) = by_bytes _ _
table_grows (wide_table at n e l q r) = by_bytes _ _

mutual
  -- laying a tree only appends
  pub grows : {lent : Option Lends} {g : Given} {s e : Laid} {t : Tree} {w : ℕ}
      → LaysBy lent g s t e w → Grows s e
  grows (lays_integer h) = grows_by_nothing _
  grows (lays_string h l) = grows_by_nothing _
  grows lays_no_path = grows_by_nothing _
  grows (lays_path at some u n e l) = by_bytes _ _
  grows lays_no_bytes = grows_by_nothing _
  grows (lays_bytes at some n e l) = by_bytes _ _
  grows lays_no_numbers = grows_by_nothing _
  grows (lays_numbers at some n a e l) = by_bytes _ _
  grows lays_no_members = grows_by_nothing _
  grows (lays_members h some c) = grows_onward (grows_each h) (array_grows c)
  grows lays_no_entries = grows_by_nothing _
  grows (lays_entries ps p h some c) = grows_onward (grows_each h) (table_grows c)

  pub grows_each : {lent : Option Lends} {g : Given} {s e : Laid} {ts : Trees} {ws : List ℕ}
      → LaysEachBy lent g s ts e ws
      → Grows s e
  grows_each each_none = grows_by_nothing _
  grows_each (each_more h k) = grows_onward (grows h) (grows_each k)

-- what stands in the parts later stood in them before
pub parts_stood : {p : Parts} {g : Given} {a b : Laid} → Grows a b → StandsIn p g b → StandsIn p g a
parts_stood {p} {g} {a} {b} h s = record {
  front = s.front;
  units_behind = h.units ++ s.units_behind;
  bytes_behind = h.bytes ++ s.bytes_behind;
  front_is = s.front_is;
  block_is = s.block_is ∙ ap (λ us. us ++ s.units_behind) h.units_are
      ∙ append_assoc a.units h.units s.units_behind;
  body_is = s.body_is ∙ ap (λ bs. s.front ++ bs) (ap (λ bs. bs ++ s.bytes_behind) h.bytes_are
      ∙ append_assoc a.tail h.bytes s.bytes_behind);
}

pub units_stay : {a b : Laid} → Grows a b → 0 < length a.units → 0 < length b.units
units_stay {a} {b} h some = omega (
  arith,
  some,
  ap length h.units_are,
  length-append a.units h.units,
)

-- What a body is depends on where the tail begins, and not on where keys and strings stand.
use Rattle.std.proofs.Common.{◌≡◌, ℕ, List, Option, sym, subst}
use Rattle.resb_tree.specs.Tree.{alias, binary, int_vector}
use Rattle.resb_layout.specs.Laid.{Given, Lends, Laid, LaysBy, lays_no_path, lays_path}
use Rattle.resb_layout.specs.Laid.{lays_no_bytes, lays_bytes, lays_no_numbers, lays_numbers}
use Rattle.resb_layout.specs.Laid.{ClosesArrayBy, short_array, long_array, ClosesTableBy}
use Rattle.resb_layout.specs.Laid.{short_table}
use Rattle.resb_layout.specs.Laid.{long_table, wide_table}
use Rattle.resb_write.specs.Inner.Room.{at_base}

abbrev with_base : Given → ℕ → Given
with_base g n = record {
  position = g.position;
  offset = g.offset;
  base = n;
  packing = g.packing;
}

module _ (lent : Option Lends) (g : Given) (n : ℕ) where
  array_with : {s : Laid} {ws : List ℕ} {e : Laid} {w : ℕ} → ClosesArrayBy lent (at_base n) s ws e w
      → ClosesArrayBy lent (with_base g n) s ws e w
  array_with (short_array m l) = short_array m l
  array_with (long_array at m f p q) = long_array at m f p q

  table_with : {s : Laid} {ps ws : List ℕ} {e : Laid} {w : ℕ} → ClosesTableBy lent
      (at_base n) s ps ws e w
      → ClosesTableBy lent (with_base g n) s ps ws e w
  table_with (short_table r m l) = short_table r m l
  table_with (long_table at r m f p) = long_table at r m f p
  table_with (wide_table at r f p q z) = wide_table at r f p q z

  path_with : {s : Laid} {path : List ℕ} {e : Laid} {w : ℕ} → LaysBy lent (at_base n) s
      (alias path) e w
      → LaysBy lent (with_base g n) s (alias path) e w
  path_with lays_no_path = lays_no_path
  path_with (lays_path at some text m f l) = lays_path at some text m f l

  bytes_with : {s : Laid} {bs : List ℕ} {e : Laid} {w : ℕ} → LaysBy lent (at_base n) s
      (binary bs) e w
      → LaysBy lent (with_base g n) s (binary bs) e w
  bytes_with lays_no_bytes = lays_no_bytes
  bytes_with (lays_bytes at some m f l) = lays_bytes at some m f l

  numbers_with : {s : Laid} {ns : List ℕ} {e : Laid} {w : ℕ}
      → LaysBy lent (at_base n) s (int_vector ns) e w
      → LaysBy lent (with_base g n) s (int_vector ns) e w
  numbers_with lays_no_numbers = lays_no_numbers
  numbers_with (lays_numbers at some m a f l) = lays_numbers at some m a f l

module _ (lent : Option Lends) (g : Given) (n : ℕ) (e : g.base ≡ n) where
  there : (P : Given → Type 0) → P (with_base g n) → P g
  there P h = subst (λ k. P (with_base g k)) (sym e) h

  pub array_anywhere : {s : Laid} {ws : List ℕ} {e : Laid} {w : ℕ}
      → ClosesArrayBy lent (at_base n) s ws e w
      → ClosesArrayBy lent g s ws e w
  array_anywhere {s} {ws} {e} {w} h = there (λ k. ClosesArrayBy lent k s ws e w)
      (array_with lent g n h)

  pub table_anywhere : {s : Laid} {ps ws : List ℕ} {e : Laid} {w : ℕ}
      → ClosesTableBy lent (at_base n) s ps ws e w
      → ClosesTableBy lent g s ps ws e w
  table_anywhere {s} {ps} {ws} {e} {w} h =
      there (λ k. ClosesTableBy lent k s ps ws e w) (table_with lent g n h)

  pub path_anywhere : {s : Laid} {path : List ℕ} {e : Laid} {w : ℕ}
      → LaysBy lent (at_base n) s (alias path) e w
      → LaysBy lent g s (alias path) e w
  path_anywhere {s} {path} {e} {w} h = there (λ k. LaysBy lent k s (alias path) e w)
      (path_with lent g n h)

  pub bytes_anywhere : {s : Laid} {bs : List ℕ} {e : Laid} {w : ℕ}
      → LaysBy lent (at_base n) s (binary bs) e w
      → LaysBy lent g s (binary bs) e w
  bytes_anywhere {s} {bs} {e} {w} h = there (λ k. LaysBy lent k s (binary bs) e w)
      (bytes_with lent g n h)

  pub numbers_anywhere : {s : Laid} {ns : List ℕ} {e : Laid} {w : ℕ}
      → LaysBy lent (at_base n) s (int_vector ns) e w
      → LaysBy lent g s (int_vector ns) e w
  numbers_anywhere {s} {ns} {e} {w} h =
      there (λ k. LaysBy lent k s (int_vector ns) e w) (numbers_with lent g n h)

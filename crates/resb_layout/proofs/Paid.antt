-- Each resource of a laid tree but the root takes a unit or a word of its collection's body.
use Rattle.std.proofs.Common.{◌≡◌, ℕ, ◌+◌, ◌*◌, ◌≤◌, List, ◌∷◌, ◌++◌, length}
use Rattle.std.proofs.Common.{length-append, arith}
use Rattle.std.specs.Int.{to_le_bytes, w16, w32}
use Rattle.resb_tree.specs.Tree.{Tree, Trees, tree_count, trees_count}
use Rattle.resb_layout.specs.Laid.{Given, Laid, more_units, more_bytes, here, words, pad}
use Rattle.resb_format.specs.Bytes.{units_as_bytes}
use Rattle.resb_layout.specs.Laid.{offsets_by, nears_by, words_body}
use Rattle.resb_layout.specs.Laid.{near_table_body, wide_table_body}
use Rattle.resb_layout.specs.Laid.{binary_body, path_body}
use Rattle.resb_format.specs.Units.{units}
use Rattle.resb_layout.specs.Laid.{ClosesArrayBy, short_array, long_array, ClosesTableBy}
use Rattle.resb_layout.specs.Laid.{short_table, long_table, wide_table, LaysBy, lays_integer}
use Rattle.resb_layout.specs.Laid.{lays_string, lays_no_path, lays_path, lays_no_bytes}
use Rattle.resb_layout.specs.Laid.{lays_bytes, lays_no_numbers}
use Rattle.resb_layout.specs.Laid.{lays_numbers, lays_no_members, lays_members, lays_no_entries}
use Rattle.resb_layout.specs.Laid.{lays_entries, LaysEachBy, each_none, each_more}
use Rattle.resb_layout.specs.Laws.{taken, LaidIsPaid}
use Rattle.resb_layout.proofs.Forms.{offsets_many}
use Rattle.resb_format.proofs.WordsBack.{written_length}
use Rattle.resb_layout.proofs.Denoted.{members_count}
use Rattle.std.proofs.Common.{Option}
use Rattle.resb_layout.specs.Laid.{Lends}

bytes_taken : (s : Laid) (bs : List ℕ) → taken (more_bytes s bs) ≡ taken s + length bs
bytes_taken s bs = omega (arith, length-append s.tail bs)

units_taken : (s : Laid) (us : List ℕ) → taken (more_units s us) ≡ taken s + 2 * length us
units_taken s us = omega (arith, length-append s.units us)

-- a body has room for each member
array_room : {lent : Option Lends} {g : Given} {s : Laid} {ws : List ℕ} {e : Laid} {w : ℕ}
    → ClosesArrayBy lent g s ws e w
    → taken s + 2 * length ws ≤ taken e
array_room {lent = lent} {s = s} {ws = ws} (short_array h l) =
    omega (arith, units_taken s (length ws ∷ offsets_by lent ws), offsets_many lent ws)
array_room {s = s} {ws = ws} (long_array at h e l n) =
    omega (
      arith,
      bytes_taken s (words_body ws),
      written_length ws,
      length-append (to_le_bytes w32 (length ws)) (words ws),
    )

table_room : {lent : Option Lends} {g : Given} {s : Laid} {ps ws : List ℕ} {e : Laid} {w : ℕ}
    → ClosesTableBy lent g s ps ws e w → taken s + 2 * length ws ≤ taken e
table_room {lent = lent} {s = s} {ps = ps} {ws = ws} (short_table n h l) =
    omega (
      arith,
      units_taken s (length ws ∷ (nears_by lent ps ++ offsets_by lent ws)),
      length-append (nears_by lent ps) (offsets_by lent ws),
      offsets_many lent ws,
    )
table_room {lent = lent} {s = s} {ps = ps} {ws = ws} (long_table at n h e l) =
    let qs : List ℕ = nears_by lent ps in
    omega (
      arith,
      bytes_taken s (near_table_body qs ws),
      written_length ws,
      length-append (to_le_bytes w16 (length qs)) (units_as_bytes qs
          ++ (pad (length qs) ++ words ws)),
      length-append (units_as_bytes qs) (pad (length qs) ++ words ws),
      length-append (pad (length qs)) (words ws),
    )
table_room {s = s} {ps = ps} {ws = ws} (wide_table at n e l q r) =
    omega (
      arith,
      bytes_taken s (wide_table_body ps ws),
      written_length ws,
      length-append (to_le_bytes w32 (length ps)) (words ps ++ words ws),
      length-append (words ps) (words ws),
    )

mutual
  pub paid : {lent : Option Lends} {g : Given} {s e : Laid} {t : Tree} {w : ℕ}
      → LaysBy lent g s t e w
      → taken s + 2 * tree_count t ≤ taken e + 2
  paid (lays_integer h) = omega arith
  paid (lays_string h l) = omega arith
  paid lays_no_path = omega arith
  paid (lays_path {s = s'} {path = p'} at some u n e l) =
      omega (arith, bytes_taken s' (path_body (units p')))
  paid lays_no_bytes = omega arith
  paid {lent = lent} {g = g} (lays_bytes {s = s'} {bytes = b'} at some n e l) =
      omega (arith, bytes_taken s' (binary_body (here g s') b'))
  paid lays_no_numbers = omega arith
  paid (lays_numbers {s = s'} {ns = n'} at some n a e l) =
      omega (arith, bytes_taken s' (words_body n'))
  paid lays_no_members = omega arith
  paid (lays_members h some c) = let each = paid_each h in let room =
      array_room c in omega (arith, each, room)
  paid lays_no_entries = omega arith
  paid (lays_entries {es = es'} ps p h some c) = let each = paid_each h in let room =
      table_room c in omega (arith, each, room, members_count es')

  paid_each : {lent : Option Lends} {g : Given} {s e : Laid} {ts : Trees} {ws : List ℕ}
      → LaysEachBy lent g s ts e ws
      → taken s + 2 * trees_count ts ≤ taken e + 2 * length ws
  paid_each each_none = omega arith
  paid_each (each_more h k) = let first = paid h in let rest =
      paid_each k in omega (arith, first, rest)

-- a laid tree has a count that half its bytes pay
pub laid_is_paid : LaidIsPaid
laid_is_paid lent g before after t w h = paid h

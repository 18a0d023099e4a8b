-- What stands so far, as the definitions see it, the numbers that are given for a tree, and room
-- for its bodies.
--     laid_of b               what stands so far
--     GivesInTurn g ps os ts  ps and os are where the keys and the strings of ts stand, in turn
--     HasRoomFor n s ts       there is room for the bodies of ts behind s
--     tail_base n b           where the 16-bit block ends, if it begins at byte n
--     HasRoomBehind n p ts    there is room for the pool p and the bodies of ts from byte n
use Rattle.std.specs.Prelude.{◌≡◌, ℕ, ◌+◌, ◌*◌, ◌/◌, ◌%◌, ◌^◌, ◌<◌, List, length, map, All}
use Rattle.std.specs.Prelude.{Some, None}
use Rattle.std.specs.List.{sum_by, flat_map}
use Rattle.resb_tree.specs.Tree.{Tree, string, alias, array, table, binary, integer, int_vector}
use Rattle.resb_format.specs.Units.{units as units_of}
use Rattle.resb_layout.specs.Laid.{Given, Laid}
use Rattle.resb_pool.specs.declared.packing.Packing.TheVariants.{Plain}
use Rattle.resb_tree.specs.LayingOrder.{array_members, values_of, own_keys, text_in}
use Rattle.resb_write.specs.declared.sites.Bodies.{Bodies}

-- the units and the bytes that are laid so far
abbrev pub laid_of : Bodies → Laid
laid_of b = record { units = b.units.items; tail = b.tail.items }

-- no key and no string stands anywhere, and the tail begins so many bytes into the body
abbrev pub at_base : ℕ → Given
at_base n = record {
  position = λ k. None;
  offset = λ s. None;
  base = n;
  packing = Plain;
}

-- ps are the positions of the keys of these resources, in their order, and os the offsets of their
-- strings
pub record GivesInTurn (g : Given) (ps os : List ℕ) (ts : List Tree) : Type 0 where
  pub keys : map g.position (flat_map own_keys ts) ≡ map Some ps
  pub texts : map g.offset (flat_map text_in ts) ≡ map Some os
  pub near : All (λ k. k < 2 ^ 28) os

-- how many members a collection has, how many pairs of numbers a vector, how many eights of bytes
-- a binary, and how many fours of units a path
abbrev pub own_size : Tree → ℕ
own_size (string s) = 0
own_size (alias s) = (length (units_of s) + 3) / 4
own_size (array ts) = length (array_members ts)
own_size (table es) = length (values_of es)
own_size (binary s) = (length s + 7) / 8
own_size (integer n) = 0
own_size (int_vector ns) = (length ns + 1) / 2

-- a body takes at most so many units of the 16-bit block
abbrev pub most_units : Tree → ℕ
most_units t = 2 * own_size t + 1

-- a body takes at most so many bytes of the tail
abbrev pub most_bytes : Tree → ℕ
most_bytes t = 8 * own_size t + 32

-- behind s there is room for the bodies of these resources, if the tail begins at byte n
pub record HasRoomFor (n : ℕ) (s : Laid) (ts : List Tree) : Type 0 where
  pub aligned : (n + length s.tail) % 4 ≡ 0
  pub units : length s.units + sum_by most_units ts < 2 ^ 28
  pub bytes : n + length s.tail + sum_by most_bytes ts < 2 ^ 30

-- where a 16-bit block that begins at byte n of the body ends, with a unit that fills the last word
abbrev pub tail_base : ℕ → Bodies → ℕ
tail_base n b = n + 2 * (length b.units.items + length b.units.items % 2)

-- from byte n of the body there is room for the pool, and behind it for the bodies of these
-- resources
pub record HasRoomBehind (n : ℕ) (pool : List ℕ) (ts : List Tree) : Type 0 where
  pub units : length pool + sum_by most_units ts < 2 ^ 28
  pub bytes : n + 2 * (length pool + sum_by most_units ts + 1) + sum_by most_bytes ts < 2 ^ 30

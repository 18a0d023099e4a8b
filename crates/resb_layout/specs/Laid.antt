-- How a tree is laid out behind the pool of its strings. Short bodies stand in the 16-bit block,
-- all others in the tail behind it, a member's body before its collection's. (ICU's
-- `uresdata.h`.)
--     LaysBy lent g before t after w  from where before stands, the tree t takes what after has
--                                     more, and its word is w, in a file to which a pool bundle
--                                     lends, or in one that uses none
--     LaysEachBy lent g .. ts .. ws   so trees in a row do
use Rattle.std.specs.Prelude.{◌≡◌, ℕ, ◌+◌, ◌-◌, ◌*◌, ◌^◌, ◌<◌, ◌%◌, List, [], ◌∷◌, ◌++◌}
use Rattle.std.specs.Prelude.{length, map, replicate, All, Option, Some, None, Bool, true, false}
use Rattle.std.specs.Prelude.{◌&&◌, ◌||◌, nat_le, nat_lt, nat_eq, if◌then◌else◌}
use Rattle.std.specs.List.{flat_map, list_all}
use Rattle.std.specs.List.Sorted.{IsStrictlySortedBy}
use Rattle.std.specs.Int.{to_le_bytes, w16, w32}
use Rattle.std.specs.Str.{IsUtf8}
use Rattle.resb_tree.specs.Tree.{Tree, string, alias, array, table, binary, integer, int_vector}
use Rattle.resb_tree.specs.Tree.{Trees, no_trees, more_trees, Entries, no_entries, entry}
use Rattle.resb_tree.specs.Maps.{text_cmp}
use Rattle.resb_tree.specs.LayingOrder.{entry_keys}
use Rattle.resb_format.specs.Bytes.{units_as_bytes}
use Rattle.resb_format.specs.Units.{units}
use Rattle.resb_pool.specs.declared.packing.Packing.{Packing}
use Rattle.resb_pool.specs.declared.packing.Packing.TheVariants.{Plain, Compact}

-- where keys and strings stand, where the tail begins, and how the file is packed: positions of
-- keys and that place are in bytes of the body, offsets of strings in units of the 16-bit block
pub record Given : Type 0 where
  pub position : List ℕ → Option ℕ
  pub offset : List ℕ → Option ℕ
  pub base : ℕ
  pub packing : Packing

-- what a pool bundle lends to a file, as a short body of the file tells it: where the file's own
-- keys end, in bytes of the body, and the first index of a string that is its own, as an index and
-- as a unit
pub record Lends : Type 0 where
  pub own_end : ℕ
  pub limit : ℕ
  pub short_limit : ℕ

-- what stands so far: the units of the 16-bit block, and the bytes of the tail
pub record Laid : Type 0 where
  pub units : List ℕ
  pub tail : List ℕ

-- the next byte of the body behind the tail
abbrev pub here : Given → Laid → ℕ
here g s = g.base + length s.tail

-- what is laid, with these units behind the 16-bit block's
abbrev pub more_units : Laid → List ℕ → Laid
more_units s us = record { units = s.units ++ us; tail = s.tail }

-- what is laid, with these bytes behind the tail's
abbrev pub more_bytes : Laid → List ℕ → Laid
more_bytes s bs = record { units = s.units; tail = s.tail ++ bs }

-- numbers of 32 bits as bytes, the lowest byte first
abbrev pub words : List ℕ → List ℕ
words ws = flat_map (to_le_bytes w32) ws

-- n filling bytes
abbrev pub fill : ℕ → List ℕ
fill n = replicate n 0xaa

-- from n bytes to the next word
abbrev pub to_word : ℕ → ℕ
to_word n = (4 - n % 4) % 4

-- from byte n to the next one behind which four bytes end at a multiple of 16
abbrev pub to_data : ℕ → ℕ
to_data n = (28 - n % 16) % 16

-- a binary's body: a count of 32 bits and as many bytes, which begin at a multiple of 16, filled up
-- to a word
abbrev pub binary_body : ℕ → List ℕ → List ℕ
binary_body at bytes =
    fill (to_data at) ++ (to_le_bytes w32 (length bytes)
    ++ (bytes ++ fill (to_word (length bytes))))

-- a body of words: a count of 32 bits, and as many numbers or descriptors
abbrev pub words_body : List ℕ → List ℕ
words_body ws = to_le_bytes w32 (length ws) ++ words ws

-- a unit 0xaaaa where n is even, so that n units and one more end at a word
abbrev pub pad : ℕ → List ℕ
pad n = if nat_eq (n % 2) 0 then 0xaa ∷ 0xaa ∷ [] else []

-- a path's body: a count of 32 bits, as many units of UTF-16, a unit 0, which the count leaves out,
-- and padding, so that words follow
abbrev pub path_body : List ℕ → List ℕ
path_body us = to_le_bytes w32 (length us) ++ (units_as_bytes us ++ 0 ∷ 0 ∷ pad (length us))

-- a table's body: a count of 16 bits, as many positions, padding, and as many descriptors
abbrev pub near_table_body : List ℕ → List ℕ → List ℕ
near_table_body ps ws = to_le_bytes w16 (length ps)
    ++ (units_as_bytes ps ++ (pad (length ps) ++ words ws))

-- a table's body: a count of 32 bits, as many positions, and as many descriptors
abbrev pub wide_table_body : List ℕ → List ℕ → List ℕ
wide_table_body ps ws = to_le_bytes w32 (length ps) ++ (words ps ++ words ws)

-- the word of a string at an offset: of the empty one, at offset 0, the compact packing has 0
abbrev pub word_of_string : Packing → ℕ → ℕ
word_of_string Plain k = 0x6000_0000 + k
word_of_string Compact k = if nat_eq k 0 then 0 else 0x6000_0000 + k

-- a unit can hold each of the positions, and count them
abbrev pub are_near : List ℕ → Bool
are_near ps = nat_le (length ps) 65535 && list_all (λ p. nat_le p 65535) ps

-- a position as 16 bits tell it, if they can: a place in a pool's keys, which a position of 2^31
-- and more tells, is counted from the end of the file's own; where no pool is used, it is itself
abbrev pub near_by : Option Lends → ℕ → ℕ
near_by None = λ p. p
near_by (Some l) = λ p. if nat_le (2 ^ 31) p then p - 2 ^ 31 + l.own_end else p

-- an index as a unit tells it, if one can: 0, the empty text's, tells itself; so does that of a
-- string of the pool below the short limit, and none from there on; the file's own follow from the
-- short limit on. Where no pool is used, an index tells itself
abbrev pub short_by : Option Lends → ℕ → ℕ
short_by None = λ i. i
short_by (Some l) = λ i.
    if nat_eq i 0 then 0
    else if nat_le l.limit i then i - l.limit + l.short_limit
    else if nat_lt i l.short_limit then i
    else 65536

-- these positions as 16 bits tell them
abbrev pub nears_by : Option Lends → List ℕ → List ℕ
nears_by None = λ ps. ps
nears_by (Some l) = map (near_by (Some l))

-- the word of a string that a unit can tell: 0 is an empty one's
abbrev pub is_short_by : Option Lends → ℕ → Bool
is_short_by None = λ w. nat_eq w 0 || (nat_le 0x6000_0000 w && nat_le w 0x6000_ffff)
is_short_by (Some l) =
    λ w. nat_eq w 0 || (nat_le 0x6000_0000 w
    && (nat_le w 0x6fff_ffff && nat_le (short_by (Some l) (w - 0x6000_0000)) 65535))

-- all words are those of strings that a unit can tell, and a unit can count them
abbrev pub are_short_by : Option Lends → List ℕ → Bool
are_short_by lent ws = nat_le (length ws) 65535 && list_all (is_short_by lent) ws

-- what units tell of the strings of these words
abbrev pub offsets_by : Option Lends → List ℕ → List ℕ
offsets_by lent ws = map (λ w. short_by lent (w - 0x6000_0000)) ws

-- behind its members, whose words are ws: an array's further units or bytes, and its word
pub data ClosesArrayBy (lent : Option Lends) (g : Given) (s : Laid) (ws : List ℕ)
    : Laid → ℕ → Type 0 where
  short_array : are_short_by lent ws ≡ true → length s.units < 2 ^ 28
      → ClosesArrayBy lent g s ws (more_units s (length ws ∷ offsets_by lent ws)) (0x9000_0000
      + length s.units)
  long_array : (at : ℕ) → are_short_by lent ws ≡ false → here g s ≡ 4 * at → at < 2 ^ 28
      → length ws < 2 ^ 32
      → ClosesArrayBy lent g s ws (more_bytes s (words_body ws)) (0x8000_0000 + at)

-- behind its members, whose words are ws: a table's further units or bytes, and its word; its keys
-- have the positions ps
pub data ClosesTableBy (lent : Option Lends) (g : Given) (s : Laid) (ps ws : List ℕ)
    : Laid → ℕ → Type 0 where
  short_table : are_near (nears_by lent ps) ≡ true → are_short_by lent ws ≡ true
      → length s.units < 2 ^ 28
      → ClosesTableBy lent g s ps ws (more_units s (length ws ∷ (nears_by lent ps
      ++ offsets_by lent ws)))
      (0x5000_0000 + length s.units)
  long_table : (at : ℕ) → are_near (nears_by lent ps) ≡ true → are_short_by lent ws ≡ false
      → here g s ≡ 4 * at → at < 2 ^ 28
      → ClosesTableBy lent g s ps ws (more_bytes s (near_table_body (nears_by lent ps) ws))
      (0x2000_0000
      + at)
  wide_table : (at : ℕ) → are_near (nears_by lent ps) ≡ false → here g s ≡ 4 * at → at < 2 ^ 28
      → length ps < 2 ^ 32 → All (λ p. p < 2 ^ 32) ps
      → ClosesTableBy lent g s ps ws (more_bytes s (wide_table_body ps ws)) (0x4000_0000 + at)

-- the trees of entries, in their order
abbrev pub entry_trees : Entries → Trees
entry_trees no_entries = no_trees
entry_trees (entry k t es) = more_trees t (entry_trees es)

-- the keys strictly ascend by their bytes, and have these positions
pub record ArePlaced (g : Given) (ks : List (List ℕ)) (ps : List ℕ) : Type 0 where
  pub ascend : IsStrictlySortedBy text_cmp ks
  pub positions : map g.position ks ≡ map Some ps

mutual
  -- behind what is laid, what a tree takes in the 16-bit block and in the tail, members first, and
  -- its word: an empty collection, path, binary or vector is its type with value 0
  pub data LaysBy (lent : Option Lends) (g : Given) : Laid → Tree → Laid → ℕ → Type 0 where
    lays_integer : {s : Laid} {n : ℕ} → n < 2 ^ 28 → LaysBy lent g s (integer n) s (0x7000_0000 + n)
    lays_string : {s : Laid} {text : List ℕ} {k : ℕ} → g.offset text ≡ Some k → k < 2 ^ 28
        → LaysBy lent g s (string text) s (word_of_string g.packing k)
    lays_no_path : {s : Laid} → LaysBy lent g s (alias []) s 0x3000_0000
    lays_path : {s : Laid} {path : List ℕ} (at : ℕ) → 0 < length path → IsUtf8 path
        → length (units path) < 2 ^ 32 → here g s ≡ 4 * at → at < 2 ^ 28
        → LaysBy lent g s (alias path) (more_bytes s (path_body (units path))) (0x3000_0000 + at)
    lays_no_bytes : {s : Laid} → LaysBy lent g s (binary []) s 0x1000_0000
    lays_bytes : {s : Laid} {bytes : List ℕ} (at : ℕ) → 0 < length bytes → length bytes < 2 ^ 32
        → here g s + to_data (here g s) ≡ 4 * at → at < 2 ^ 28
        → LaysBy lent g s (binary bytes) (more_bytes s (binary_body (here g s) bytes))
        (0x1000_0000 + at)
    lays_no_numbers : {s : Laid} → LaysBy lent g s (int_vector []) s 0xe000_0000
    lays_numbers : {s : Laid} {ns : List ℕ} (at : ℕ) → 0 < length ns → length ns < 2 ^ 32
        → All (λ n. n < 2 ^ 32) ns → here g s ≡ 4 * at → at < 2 ^ 28
        → LaysBy lent g s (int_vector ns) (more_bytes s (words_body ns)) (0xe000_0000 + at)
    lays_no_members : {s : Laid} → LaysBy lent g s (array no_trees) s 0x8000_0000
    lays_members : {s mid end : Laid} {ts : Trees} {ws : List ℕ} {w : ℕ}
        → LaysEachBy lent g s ts mid ws
        → 0 < length ws → ClosesArrayBy lent g mid ws end w → LaysBy lent g s (array ts) end w
    lays_no_entries : {s : Laid} → LaysBy lent g s (table no_entries) s 0x2000_0000
    lays_entries : {s mid end : Laid} {es : Entries} {ws : List ℕ} {w : ℕ} (ps : List ℕ)
        → ArePlaced g (entry_keys es) ps → LaysEachBy lent g s (entry_trees es) mid ws
        → 0 < length ws
        → ClosesTableBy lent g mid ps ws end w → LaysBy lent g s (table es) end w

  -- trees are laid one after another, each with its word
  pub data LaysEachBy (lent : Option Lends) (g : Given) : Laid → Trees → Laid → List ℕ
      → Type 0 where
    each_none : {s : Laid} → LaysEachBy lent g s no_trees s []
    each_more : {s mid end : Laid} {ws : List ℕ} {w : ℕ} {t : Tree} {ts : Trees}
        → LaysBy lent g s t mid w → LaysEachBy lent g mid ts end ws
        → LaysEachBy lent g s (more_trees t ts) end (w ∷ ws)

-- What a file is: its parts, which bytes are one, what it denotes, and how much of it may be read.
-- (ICU's `ucmndata.h`, `udata.h` and `uresdata.h`.)
--     parts_of bytes          its parts
--     IsBundleFile bytes      the head names this format, and the blocks lie inside the file
--     Denotes bytes t n       the file's root denotes the tree t, of n resources
--     DenotesWithAliases bytes t n    so it does where aliases and strings of the older form are
--                             read too
--     budget bytes            one resource for each 16-bit unit of the file
use Rattle.std.specs.Prelude.{◌≡◌, ℕ, ◌+◌, ◌-◌, ◌*◌, ◌/◌, ◌≤◌, min, List, [], ◌∷◌, length, take}
use Rattle.std.specs.Prelude.{drop, slice_index, slice_range, codes, None}
use Rattle.resb_tree.specs.Tree.{Tree}
use Rattle.resb_format.specs.Bytes.{units_of, words_of, header_size}
use Rattle.resb_format.specs.Parts.{Parts, beside_no_pool}
use Rattle.resb_format.specs.Denotes.{Den}

-- the bytes behind the header
abbrev pub body_of : List ℕ → List ℕ
body_of bytes = drop (header_size bytes) bytes

-- word i of the body: word 0 is the root's descriptor, and behind it stands the index
abbrev pub body_word : List ℕ → ℕ → ℕ
body_word bytes i = slice_index (words_of (body_of bytes)) i

-- the body's first word: the root's descriptor
abbrev pub root_word : List ℕ → ℕ
root_word bytes = body_word bytes 0

-- the index's first word: how many words the index has
abbrev pub field_count : List ℕ → ℕ
field_count bytes = body_word bytes 1

-- the index's second word: where the key block ends, in words of the body
abbrev pub keys_end : List ℕ → ℕ
keys_end bytes = body_word bytes 2

-- the index's sixth word: the attributes, whose lowest bit turns fallback off
abbrev pub attributes : List ℕ → ℕ
attributes bytes = body_word bytes 6

-- the index's seventh word: where the 16-bit block ends, in words of the body
abbrev pub block_end : List ℕ → ℕ
block_end bytes = body_word bytes 7

-- the parts of a body; ends in its index are in words
abbrev pub parts_in_body : List ℕ → Parts
parts_in_body body =
    let keys_end = slice_index (words_of body) 2 in
    let block_end = slice_index (words_of body) 7 in
    record {
      body = body;
      keys = take (4 * keys_end) body;
      block = units_of (take (4 * (block_end - keys_end)) (drop (4 * keys_end) body));
      lent = None;
    }

-- the parts of a file: those of its body
unfoldable pub parts_of : List ℕ → Parts
parts_of bytes = parts_in_body (body_of bytes)

-- the file's head says each of these things, and the parts lie inside the file
pub record IsBundleFile (bytes : List ℕ) : Type 0 where
  pub magic : slice_range bytes 2 4 ≡ 0xda ∷ 0x27 ∷ []
  pub little_endian : slice_index bytes 8 ≡ 0
  pub ascii : slice_index bytes 9 ≡ 0
  pub two_byte_chars : slice_index bytes 10 ≡ 2
  pub format : slice_range bytes 12 16 ≡ codes "ResB"
  pub version : slice_range bytes 16 20 ≡ 2 ∷ 0 ∷ 0 ∷ 0 ∷ []
  pub header : 24 ≤ header_size bytes
  pub header_inside : header_size bytes ≤ length bytes
  pub fields : 7 ≤ field_count bytes
  pub index_inside : 4 * (1 + min (field_count bytes) 8) ≤ length (body_of bytes)
  pub keys_inside : 4 * keys_end bytes ≤ length (body_of bytes)
  pub blocks_ordered : keys_end bytes ≤ block_end bytes
  pub block_inside : 4 * block_end bytes ≤ length (body_of bytes)

-- the bytes are a bundle file, and its root's word denotes the tree, of n resources
pub record Denotes (bytes : List ℕ) (t : Tree) (n : ℕ) : Type 0 where
  pub head : IsBundleFile bytes
  pub root : Den (parts_of bytes) (root_word bytes) t n

-- the bytes are a bundle file, and where aliases and strings of the older form are read too, its
-- root's word denotes the tree, of n resources
pub record DenotesWithAliases (bytes : List ℕ) (t : Tree) (n : ℕ) : Type 0 where
  pub head : IsBundleFile bytes
  pub root : Den (beside_no_pool (parts_of bytes)) (root_word bytes) t n

-- half the number of the file's bytes, rounded down: one resource for each unit of 16 bits
abbrev pub budget : List ℕ → ℕ
budget bytes = length bytes / 2

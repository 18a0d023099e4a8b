-- What a written file is.
--     BlocksBy q t ks         what a file of the tree t and the keys ks is made of that is packed
--                             like this
--     WrittenBy q bytes t f ks    the file of a bundle of t that is packed like this, with locale
--                             fallback or not
--     Written bytes t f ks    the plain file, in which each key stands by itself
--     WrittenCompact bytes t f ks     the compact file: what ICU's `genrb` writes without a pool
--                             bundle, byte by byte
use Rattle.std.specs.Prelude.{◌≡◌, ℕ, ◌+◌, ◌*◌, ◌%◌, ◌≤◌, ◌==◌, List, [], ◌∷◌, ◌++◌, length, drop}
use Rattle.std.specs.Prelude.{Bool, false, Option, None, if◌then◌else◌, Contains}
use Rattle.resb_tree.specs.Tree.{Tree, tree_count}
use Rattle.resb_tree.specs.Aliases.{has_alias}
use Rattle.resb_head.specs.File.{body_of, root_word, keys_end, block_end, Denotes}
use Rattle.resb_head.specs.File.{DenotesWithAliases, budget}
use Rattle.resb_pool.specs.Plan.{IsPlanBy}
use Rattle.resb_layout.specs.Laid.{Laid, LaysBy}
use Rattle.resb_format.specs.Bytes.{units_as_bytes}
use Rattle.resb_tree.specs.LayingOrder.{texts_of}
use Rattle.resb_layout.specs.KeyBlock.{keys_start}
use Rattle.resb_layout.specs.CompactKeys.{key_block_by, key_position_by}
use Rattle.resb_layout.specs.TreeFaults.{tree_fault}
use Rattle.resb_layout.specs.WrittenHead.{IndexOf}
use Rattle.resb_pool.specs.declared.packing.Packing.{Packing}
use Rattle.resb_pool.specs.declared.packing.Packing.TheVariants.{Plain, Compact}

-- a unit that fills the last word of the 16-bit block
abbrev pub even : List ℕ → List ℕ
even us = if length us % 2 == 1 then us ++ 0xaaaa ∷ [] else us

-- where the tail begins, behind the key block and the 16-bit block
abbrev pub tail_start : List ℕ → Laid → ℕ
tail_start keys laid = keys_start + length keys + 2 * length (even laid.units)

-- what a file is made of that is packed like this: the pool of the tree's strings, and its
-- resources laid behind it
pub record BlocksBy (q : Packing) (t : Tree) (ks : List (List ℕ)) : Type 0 where
  -- the pool of the tree's strings that a file of this packing has, and where each string stands in
  -- it
  pub pool : List ℕ
  pub offset : List ℕ → Option ℕ
  -- the units of the 16-bit block and the bytes of the tail, with the bodies of all resources
  pub laid : Laid
  pub root : ℕ
  pub is_pool : IsPlanBy q (texts_of t) pool offset
  pub lays : LaysBy None
      (record {
        position = key_position_by q t ks;
        offset = offset;
        base = tail_start (key_block_by q t ks) laid;
        packing = q;
      })
      (record { units = pool; tail = [] }) t laid root

-- the bytes behind the index
abbrev pub block_bytes : {q : Packing} {t : Tree} {ks : List (List ℕ)} → BlocksBy q t ks → List ℕ
block_bytes {q} {t} {ks} b =
    key_block_by q t ks ++ (units_as_bytes (even b.laid.units) ++ b.laid.tail)

-- the tree has no empty string, or the file isn't compact
abbrev pub LacksEmpty : Packing → Tree → Type 0
LacksEmpty Plain t = Unit {0}
LacksEmpty Compact t = Contains (texts_of t) [] → ⊥

-- a file that denotes the tree, with the bundle's index, whose bytes behind the index are just the
-- blocks, packed like this
pub record WrittenBy (q : Packing) (bytes : List ℕ) (t : Tree) (fallback : Bool)
    (ks : List (List ℕ)) : Type 0 where
  pub faultless : tree_fault t ks ≡ None
  -- where aliases are read too, it denotes the tree, and holds each of its resources once
  pub tree : DenotesWithAliases bytes t (tree_count t)
  -- so it does where aliases are refused, if the tree has none, and no empty string in a compact
  -- file
  pub alone : has_alias t ≡ false → LacksEmpty q t → Denotes bytes t (tree_count t)
  pub within_budget : tree_count t ≤ budget bytes
  pub index : IndexOf bytes t fallback
  pub blocks : BlocksBy q t ks
  pub root : root_word bytes ≡ blocks.root
  pub keys_end : 4 * keys_end bytes ≡ keys_start + length (key_block_by q t ks)
  pub block_end : 4 * block_end bytes ≡ tail_start (key_block_by q t ks) blocks.laid
  pub body : drop keys_start (body_of bytes) ≡ block_bytes blocks

-- the bytes are the plain file of a bundle of the tree, in which each key stands by itself
abbrev pub Written : List ℕ → Tree → Bool → List (List ℕ) → Type 0
Written = WrittenBy Plain

-- the bytes are the compact file of a bundle of the tree, in which a key may lie in another one
abbrev pub WrittenCompact : List ℕ → Tree → Bool → List (List ℕ) → Type 0
WrittenCompact = WrittenBy Compact

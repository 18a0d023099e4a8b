-- What the laws of written files say.
--     OneBlock                the units that a tree takes don't depend on where the tail begins
--     OneFile                 a bundle and a list of keys leave one file of each packing
--     WrittenIsDenoted        it denotes the tree, each resource once
--     WrittenInOrder          its tail is the bodies of the tree's resources, without a gap
--     OneFileWithPool         a bundle, a list of keys and a pool bundle leave one of each packing
--     WrittenWithPoolIsRead   beside the pool it denotes the tree, each resource once
use Rattle.std.specs.Prelude.{◌≡◌, ℕ, ◌*◌, List, ◌++◌, drop, Bool, false, Option, Some}
use Rattle.resb_tree.specs.Tree.{Tree, tree_count}
use Rattle.resb_tree.specs.Aliases.{has_alias}
use Rattle.resb_tree.specs.LayingOrder.{laying_order}
use Rattle.resb_head.specs.File.{body_of, block_end, Denotes, DenotesWithAliases}
use Rattle.resb_layout.specs.InOrder.{FillsTail, FillsBlock}
use Rattle.resb_layout.specs.Laid.{Given, Lends, Laid, LaysBy}
use Rattle.resb_format.specs.Laws.{EachFits}
use Rattle.resb_layout.specs.Written.{WrittenBy, LacksEmpty}
use Rattle.resb_pool.specs.declared.packing.Packing.{Packing}
use Rattle.resb_pool_bundle.specs.Pool.{Pool}
use Rattle.resb_pool_bundle.specs.FileWith.{DenotesWith}
use Rattle.resb_write.specs.WrittenWith.{WrittenWithBy}

-- where the units before a tree are the same, so are those behind it, wherever the tail begins
abbrev pub OneBlock : Type 0
OneBlock =
    (lent : Option Lends) (g h : Given) (s u a b : Laid) (t : Tree) (v w : ℕ)
    → g.packing ≡ h.packing → g.position ≡ h.position → g.offset ≡ h.offset
    → s.units ≡ u.units → LaysBy lent g s t a v → LaysBy lent h u t b w → a.units ≡ b.units

-- a written file denotes its tree where aliases are read too, and, if the tree has none, also where
-- they are refused, unless it is compact and has an empty string
abbrev pub WrittenIsDenoted : Type 0
WrittenIsDenoted =
    (q : Packing) (bytes : List ℕ) (t : Tree) (fallback : Bool) (ks : List (List ℕ))
    → WrittenBy q bytes t fallback ks
    → DenotesWithAliases bytes t (tree_count t)
    × (has_alias t ≡ false → LacksEmpty q t → Denotes bytes t (tree_count t))

-- Behind the 16-bit block, and up to the file's end, the bodies of the tree's resources in laying
-- order stand one right behind another, each from a word on; behind the pool of the strings the
-- 16-bit block has the short ones.
pub record IsInOrder {q : Packing} {bytes : List ℕ} {t : Tree} {fallback : Bool}
    {ks : List (List ℕ)} (w : WrittenBy q bytes t fallback ks) : Type 0 where
  pub tail : FillsTail (4 * block_end bytes) (laying_order t) (drop (4 * block_end bytes) (body_of
      bytes))
  pub short : List ℕ
  pub units : w.blocks.laid.units ≡ w.blocks.pool ++ short
  pub block : FillsBlock (laying_order t) short

-- in each written file, compact or not, the bodies stand in order
abbrev pub WrittenInOrder : Type 0
WrittenInOrder =
    (q : Packing) (bytes : List ℕ) (t : Tree) (fallback : Bool) (ks : List (List ℕ))
    (w : WrittenBy q bytes t fallback ks) → IsInOrder w

-- two written files of a bundle and a list of keys that are packed alike are the same bytes
abbrev pub OneFile : Type 0
OneFile =
    (q : Packing) (a b : List ℕ) (t : Tree) (fallback : Bool) (ks : List (List ℕ))
    → EachFits 8 a → EachFits 8 b
    → WrittenBy q a t fallback ks → WrittenBy q b t fallback ks → a ≡ b

-- two files of a bundle and a list of keys that are written over one pool and packed alike are the
-- same bytes
abbrev pub OneFileWithPool : Type 0
OneFileWithPool =
    (q : Packing) (pool : Pool) (a b : List ℕ) (t : Tree) (fallback : Bool) (ks : List (List ℕ))
    → WrittenWithBy q pool a t fallback ks → WrittenWithBy q pool b t fallback ks → a ≡ b

-- a file that is written over a pool, compact or not, denotes its tree beside that pool
abbrev pub WrittenWithPoolIsRead : Type 0
WrittenWithPoolIsRead =
    (q : Packing) (pool : Pool) (bytes : List ℕ) (t : Tree) (fallback : Bool) (ks : List (List ℕ))
    → WrittenWithBy q pool bytes t fallback ks → DenotesWith (Some pool) bytes t (tree_count t)

-- What the laws of layouts say.
--     OneLayout               behind what is laid a tree has one end and one word
--     ReadsAliasesOf p t      if the tree has an alias, it is read in the parts
--     LaidIsDenoted           in a file whose blocks hold what was laid, its word denotes the tree
--     LaidInOrder             what is laid are the bodies of the tree's resources in laying order,
--                             without a gap
--     LaidIsPaid              what was laid has two bytes for each resource but the root
use Rattle.std.specs.Prelude.{◌≡◌, ℕ, ◌+◌, ◌*◌, ◌%◌, ◌<◌, ◌≤◌, List, [], ◌++◌, length, Option, Some}
use Rattle.std.specs.Prelude.{◌⊎◌, None, true, false}
use Rattle.resb_tree.specs.Tree.{Tree, tree_count}
use Rattle.resb_tree.specs.Aliases.{has_alias}
use Rattle.resb_format.specs.Lookups.{text_in, key_in, index_in, wide_position}
use Rattle.resb_format.specs.Parts.{Parts, reads_older}
use Rattle.resb_format.specs.Denotes.{Den}
use Rattle.resb_tree.specs.LayingOrder.{laying_order}
use Rattle.resb_layout.specs.Laid.{Given, Lends, Laid, LaysBy, near_by, short_by, here}
use Rattle.resb_layout.specs.InOrder.{FillsTail, FillsBlock}
use Rattle.resb_pool.specs.declared.packing.Packing.{Packing}
use Rattle.resb_pool.specs.declared.packing.Packing.TheVariants.{Plain, Compact}

-- from where it begins a tree is laid in one way, with one word
abbrev pub OneLayout : Type 0
OneLayout =
    (lent : Option Lends) (g : Given) (s a b : Laid) (t : Tree) (v w : ℕ) → LaysBy lent g s t a v
    → LaysBy lent g s t b w → (a ≡ b) × (v ≡ w)

-- the blocks read back what is given: each key at its position of 32 bits, each string at its
-- offset, and both as 16 bits tell them, where 16 bits can
pub record IsRead (p : Parts) (lent : Option Lends) (g : Given) : Type 0 where
  pub keys : (k : List ℕ) (at : ℕ) → g.position k ≡ Some at
      → key_in p (wide_position at) ≡ Some k
  pub near_keys : (k : List ℕ) (at : ℕ) → g.position k ≡ Some at → near_by lent at ≤ 65535
      → key_in p (near_by lent at) ≡ Some k
  pub texts : (s : List ℕ) (k : ℕ) → g.offset s ≡ Some k → text_in p k ≡ Some s
  pub short_texts : (s : List ℕ) (k : ℕ) → g.offset s ≡ Some k → short_by lent k ≤ 65535
      → text_in p (index_in p (short_by lent k)) ≡ Some s
  -- the empty text alone has the offset 0
  pub empty : (s : List ℕ) → g.offset s ≡ Some 0 → s ≡ []
  pub base : 0 < g.base
  pub aligned : g.base % 4 ≡ 0

-- what is laid stands in the parts, whatever follows it
pub record StandsIn (p : Parts) (g : Given) (s : Laid) : Type 0 where
  pub front : List ℕ
  pub units_behind : List ℕ
  pub bytes_behind : List ℕ
  pub front_is : length front ≡ g.base
  pub block_is : p.block ≡ s.units ++ units_behind
  pub body_is : p.body ≡ front ++ (s.tail ++ bytes_behind)

-- the tree has no alias, or aliases are read in the parts
abbrev pub ReadsAliasesOf : Parts → Tree → Type 0
ReadsAliasesOf p t = (has_alias t ≡ false) ⊎ (reads_older p ≡ true)

-- the same of a file that is packed like this, where the empty text has this offset, if it has one:
-- in a compact file the empty string is of a type that is read where aliases are
abbrev pub ReadsOlderOf : Packing → Option ℕ → Parts → Tree → Type 0
ReadsOlderOf Plain empty p t = ReadsAliasesOf p t
ReadsOlderOf Compact empty p t = ReadsAliasesOf p t × ((empty ≡ None) ⊎ (reads_older p ≡ true))

-- in a file that holds what was laid for a tree, its word denotes the tree, each resource counted
-- once, if the tree has no alias or aliases are read; in a compact file they are read also for an
-- empty string
abbrev pub LaidIsDenoted : Type 0
LaidIsDenoted =
    (lent : Option Lends) (p : Parts) (g : Given) (before after : Laid) (t : Tree) (w : ℕ)
    → IsRead p lent g → ReadsOlderOf g.packing (g.offset []) p t → 0 < length before.units
    → LaysBy lent g before t after w → StandsIn p g after
    → Den p w t (tree_count t)

-- behind what stands before, what stands after has these bytes and units more
pub record StandsInOrder (g : Given) (before after : Laid) (ts : List Tree) : Type 0 where
  pub bytes : List ℕ
  pub units : List ℕ
  pub bytes_are : after.tail ≡ before.tail ++ bytes
  pub units_are : after.units ≡ before.units ++ units
  pub tail : FillsTail (here g before) ts bytes
  pub block : FillsBlock ts units
  pub whole : here g after % 4 ≡ 0

-- a tail that begins at a word is filled in laying order
abbrev pub LaidInOrder : Type 0
LaidInOrder =
    (lent : Option Lends) (g : Given) (before after : Laid) (t : Tree) (w : ℕ)
    → here g before % 4 ≡ 0 → LaysBy lent g before t after w
    → StandsInOrder g before after (laying_order t)

-- the bytes of what stands
abbrev pub taken : Laid → ℕ
taken s = 2 * length s.units + length s.tail

-- a file has at least two bytes for each resource of its tree but the root
abbrev pub LaidIsPaid : Type 0
LaidIsPaid =
    (lent : Option Lends) (g : Given) (before after : Laid) (t : Tree) (w : ℕ)
    → LaysBy lent g before t after w
    → taken before + 2 * tree_count t ≤ taken after + 2

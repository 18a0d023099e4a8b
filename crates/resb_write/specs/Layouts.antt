-- How files are laid out, and what each layout promises.
--     plain                   the layout of plain files over no pool bundle
--     compacted l             the layout of compact files over the same pool bundle
--     laid_over l pool        the layout of files that are packed alike, over this pool bundle
--     pool_of l               the pool bundle of a layout, if it has one
--     IsFileOver l bytes t f ks   the file of a bundle of t that is laid out like this, with locale
--                             fallback or not
--     RefusesOver l t ks e    e may be the answer where no such file is written
use Rattle.std.specs.Prelude.{ℕ, List, Bool, Option, Some, None, option_map}
use Rattle.std.specs.Borrow.{Bor}
use Rattle.resb_tree.specs.Tree.{Tree}
use Rattle.resb_layout.specs.TreeFaults.{RefusesWriting}
use Rattle.resb_layout.specs.Written.{WrittenBy}
use Rattle.resb_layout.specs.WritingFault.{WritingFault}
use Rattle.resb_pool.specs.declared.packing.Packing.{Packing}
use Rattle.resb_pool.specs.declared.packing.Packing.TheVariants.{Plain, Compact}
use Rattle.resb_pool_bundle.specs.Pool.{Pool, pool_in}
use Rattle.resb_pool_bundle.specs.declared.pool_bundle.PoolBundle.{PoolBundle}
use Rattle.resb_write.specs.WrittenWith.{WrittenWithBy, RefusesWritingWith}
use Rattle.resb_write.specs.declared.layout.Layout.{Layout}

-- the layout of plain files over no pool bundle
abbrev pub plain : Layout
plain = record { packing = Plain; pool = None }

-- the layout of compact files over the same pool bundle, if there is one
abbrev pub compacted : Layout → Layout
compacted l = record { packing = Compact; pool = l.pool }

-- the layout of files that are packed alike, over this pool bundle
abbrev pub laid_over : Layout → Bor PoolBundle → Layout
laid_over l pool = record { packing = l.packing; pool = Some pool }

-- the pool bundle of a layout, if it has one
abbrev pub pool_of : Layout → Option Pool
pool_of l = option_map (λ p. pool_in p.now) l.pool

-- the bytes are the file of a bundle, packed like this, over the pool bundle if one is given
abbrev pub IsFileBy : Packing → Option Pool → List ℕ → Tree → Bool → List (List ℕ) → Type 0
IsFileBy q None bytes t fallback ks = WrittenBy q bytes t fallback ks
IsFileBy q (Some pool) bytes t fallback ks = WrittenWithBy q pool bytes t fallback ks

-- the fault may be the answer for a tree and keys, over the pool bundle if one is given
abbrev pub RefusesBy : Option Pool → Tree → List (List ℕ) → WritingFault → Type 0
RefusesBy None t ks e = RefusesWriting t ks e
RefusesBy (Some pool) t ks e = RefusesWritingWith pool t ks e

-- the bytes are the file of a bundle of the tree t with the keys ks, laid out like this
abbrev pub IsFileOver : Layout → List ℕ → Tree → Bool → List (List ℕ) → Type 0
IsFileOver l = IsFileBy l.packing (pool_of l)

-- the fault may be the answer where a tree t with the keys ks is to be laid out like this
abbrev pub RefusesOver : Layout → Tree → List (List ℕ) → WritingFault → Type 0
RefusesOver l = RefusesBy (pool_of l)

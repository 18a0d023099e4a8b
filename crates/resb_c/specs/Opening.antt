-- What opening a file answers.
--     OpensFile pool file r   what opening answers, beside the pool's bytes
use Rattle.std.specs.Prelude.{◌≡◌, ℕ, List, Result, Ok, Err}
use Rattle.resb_tree.specs.Tree.{Tree}
use Rattle.resb_head.specs.File.{root_word}
use Rattle.resb_pool_bundle.specs.FileWith.{DenotesWith}
use Rattle.resb_pool_bundle.specs.Pool.{parts_with}
use Rattle.resb_path.specs.Finding.{tree_spot}
use Rattle.resb_read.specs.declared.cursor.Spot.TheVariants as spot
use Rattle.resb_c.specs.Calls.{CountsFile}
use Rattle.resb_c.specs.Opened.{parts_of, spot_of, Shows}
use Rattle.resb_c.specs.Pools.{given}
use Rattle.resb_c.specs.declared.fault.Fault.{Fault}
use Rattle.resb_c.specs.declared.opened.ResbOpened.{ResbOpened}

-- the struct has the parts of the file beside the pool that is given, and its root, which shows the
-- tree that the bytes denote
pub record IsOpened (pool file : List ℕ) (o : ResbOpened) : Type 0 where
  pub parts : parts_of o ≡ parts_with (given pool) file
  pub root : spot_of o.root ≡ spot.Descriptor (root_word file)
  pub tree : (t : Tree) (n : ℕ) → DenotesWith (given pool) file t n
      → Shows o o.root (tree_spot t)

-- the file is counted as a whole, and the struct has its parts and the count; or why it isn't
abbrev pub OpensFile : List ℕ → List ℕ → Result ResbOpened Fault → Type 0
OpensFile pool file (Ok o) = CountsFile pool file (Ok o.count) × IsOpened pool file o
OpensFile pool file (Err fault) = CountsFile pool file (Err fault)

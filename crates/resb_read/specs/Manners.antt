-- How a file is read: alone, or beside a pool bundle.
--     whole_by m bytes        what the bytes of a file come to that is read in this manner
--     PassesAs m bytes f      no check of its head fails, and these are its parts
use Rattle.std.specs.Prelude.{◌≡◌, ℕ, List, None, option_map}
use Rattle.resb_format.specs.Parts.{parts_in}
use Rattle.resb_head.specs.declared.checked_file.CheckedFile.{CheckedFile}
use Rattle.resb_pool_bundle.specs.Pool.{pool_in}
use Rattle.resb_read.specs.Roots.{Whole, alone}
use Rattle.resb_read.specs.WithPool.{over}
use Rattle.resb_read.specs.declared.file.Manner.{Manner}
use Rattle.resb_read.specs.declared.file.Manner.TheVariants.{Alone, Beside}

-- what the bytes come to alone, or beside the pool bundle that is given, if one is
abbrev pub whole_by : Manner → List ℕ → Whole
whole_by Alone bytes = alone bytes
whole_by (Beside pool) bytes = over (option_map pool_in pool) bytes

-- no check of the head fails, and these are the file's parts and its root's word
abbrev pub PassesAs : Manner → List ℕ → CheckedFile → Type 0
PassesAs m bytes f =
    ((whole_by m bytes).refusal ≡ None)
    × (parts_in f.file ≡ (whole_by m bytes).parts)
    × (f.root ≡ (whole_by m bytes).root)

-- What the laws of files in either order of bytes say.
--     LittleEndianIsRead      reading the bytes that `little_endian` gives of a file answers what
--                             the file denotes in its order
--     SwappedIsDenoted        a written file that was swapped denotes its tree
use Rattle.std.specs.Prelude.{◌≡◌, ◌≤◌, ◌⊎◌, ℕ, Bool, List, Option, None, Result, Ok, Err}
use Rattle.resb_tree.specs.Tree.{Tree, tree_count}
use Rattle.resb_tree.specs.View.{tree_of}
use Rattle.resb_tree.specs.declared.resource.Resource.{Resource}
use Rattle.resb_format.specs.Error.{IsWantOfMemory}
use Rattle.resb_format.specs.declared.error.ReadingError.{ReadingError}
use Rattle.resb_head.specs.File.{budget}
use Rattle.resb_swap.specs.Swapped.{IsSwapped}
use Rattle.resb_swap.specs.Orders.{data_of, IsLittleEndian, DenotesInOrder}
use Rattle.resb_pool_bundle.specs.Pool.{Pool}
use Rattle.resb_read.specs.WithPool.{over}
use Rattle.resb_pool.specs.declared.packing.Packing.{Packing}
use Rattle.resb_write.specs.Layouts.{IsFileBy}
use Rattle.resb.specs.Laws.{ReadsAsTree}

-- the answer is a tree that the file denotes in its order, with no more resources than its budget;
-- or memory was wanted, or it denotes no such tree
abbrev pub AnswersInOrder : Option Pool → List ℕ → Result Resource ReadingError → Type 0
AnswersInOrder pool file (Ok r) =
    (n : ℕ) × DenotesInOrder pool file (tree_of r) n × (n ≤ budget file)
AnswersInOrder pool file (Err e) =
    IsWantOfMemory e
    ⊎ ((t : Tree) (n : ℕ) → DenotesInOrder pool file t n → n ≤ budget file → ⊥)

-- whatever reads the little-endian bytes of a file as a tree answers what the file denotes in its
-- order
abbrev pub LittleEndianIsRead : Type 0
LittleEndianIsRead =
    (pool : Option Pool) (file little : List ℕ) (r : Result Resource ReadingError)
    → IsLittleEndian (data_of file) file little → ReadsAsTree (over pool little) r
    → AnswersInOrder pool file r

-- a file that was written over this pool bundle or over none, and then swapped, denotes its tree in
-- its order: beside that pool bundle, or beside any or none where it was written over none
abbrev pub SwappedIsDenoted : Type 0
SwappedIsDenoted =
    (q : Packing) (lent pool : Option Pool) (bytes swapped : List ℕ) (t : Tree) (fallback : Bool)
    (ks : List (List ℕ)) → IsFileBy q lent bytes t fallback ks → (lent ≡ None) ⊎ (lent ≡ pool)
    → IsSwapped bytes swapped → DenotesInOrder pool swapped t (tree_count t)

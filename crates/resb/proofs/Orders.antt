-- What is read of a file's little-endian bytes is what the file denotes in its order, and a written
-- file that was swapped denotes its tree.
use Rattle.std.proofs.Common.{◌≡◌, ◌⊎◌, ◌≤◌, ◌/◌, ℕ, Bool, List, Option, Some, None, Ok, Err}
use Rattle.std.proofs.Common.{inl, inr, sym, ap, subst}
use Rattle.resb_tree.specs.Tree.{Tree, tree_count}
use Rattle.resb_tree.specs.View.{tree_of}
use Rattle.resb_head.specs.File.{budget}
use Rattle.resb_pool.specs.declared.packing.Packing.{Packing}
use Rattle.resb_pool_bundle.specs.FileWith.{DenotesWith}
use Rattle.resb_pool_bundle.specs.Pool.{Pool}
use Rattle.resb_pool_bundle.proofs.OwnFiles.{own_files_denote_the_same}
use Rattle.resb_read.specs.WithPool.{over}
use Rattle.resb_swap.specs.Orders.{data_of, IsLittleEndian}
use Rattle.resb_swap.proofs.Orders.{trees_little, held_of_swapped, mirrored_or_same}
use Rattle.resb_swap.proofs.Orders.{little_endian_denotes}
use Rattle.resb_write.specs.Layouts.{IsFileBy}
use Rattle.resb.specs.Orders.{LittleEndianIsRead, SwappedIsDenoted}
use Rattle.resb.proofs.ReadBack.{tree_or_none, own_file}

-- a file and its little-endian bytes have one budget
one_budget : (file little : List ℕ) → IsLittleEndian (data_of file) file little
    → budget little ≡ budget file
one_budget file little h = elim (mirrored_or_same (data_of file) file little h) [
  | inl s ↦ ap (λ (n : ℕ). n / 2) s.1.as_long
  | inr k ↦ ap budget k.1
]

pub little_endian_is_read : LittleEndianIsRead
little_endian_is_read pool file little (Ok r) h d =
    let t = tree_of r in
    let n = d.0 in (
      n,
      (little_endian_denotes.tree pool file little t n h).0
          (record { head = d.1.head; root = d.1.root.0 }),
      subst (λ m. n ≤ m) (one_budget file little h) d.2,
    )
little_endian_is_read pool file little (Err e) h m =
    elim (tree_or_none (over pool little) (λ t n d. (d.head, d.root)) (Err e) m) [
      | inl memory ↦ inl memory
      | inr none ↦ inr (λ t n d le. none t (
        n,
        (little_endian_denotes.tree pool file little t n h).1 d,
        subst (λ m. n ≤ m) (sym (one_budget file little h)) le,
      ))
    ]

-- a file that is laid out over a pool bundle denotes its tree beside that, and one over none beside
-- any
file_denotes : (q : Packing) (lent pool : Option Pool) (bytes : List ℕ) (t : Tree)
    (fallback : Bool) (ks : List (List ℕ)) → IsFileBy q lent bytes t fallback ks
    → (lent ≡ None) ⊎ (lent ≡ pool) → DenotesWith pool bytes t (tree_count t)
file_denotes q None pool bytes t f ks w is =
    (own_files_denote_the_same pool bytes (own_file w) t (tree_count t)).0 w.tree
file_denotes q (Some lent) pool bytes t f ks w (inl none) =
    absurd (let no : Some lent ≡ None = none in cc)
file_denotes q (Some lent) pool bytes t f ks w (inr is) =
    subst (λ p. DenotesWith p bytes t (tree_count t)) is w.tree

pub swapped_is_denoted : SwappedIsDenoted
swapped_is_denoted q lent pool bytes big t f ks w is s =
    held_of_swapped _ (trees_little pool t (tree_count t)) bytes big
    (file_denotes q lent pool bytes t f ks w is) s

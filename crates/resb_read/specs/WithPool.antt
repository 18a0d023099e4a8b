-- What a file beside a pool bundle comes to.
--     over pool bytes         what the bytes come to beside the pool that is given, if one is
--     OneTreeWithPool         such a file has one tree
use Rattle.std.specs.Prelude.{◌≡◌, ℕ, List, Option}
use Rattle.resb_tree.specs.Tree.{Tree}
use Rattle.resb_head.specs.File.{root_word, budget}
use Rattle.resb_pool_bundle.specs.Checks.{refusal_with}
use Rattle.resb_pool_bundle.specs.FileWith.{IsFileWith, DenotesWith}
use Rattle.resb_pool_bundle.specs.Pool.{Pool, parts_with}
use Rattle.resb_read.specs.Roots.{Whole}

-- what the bytes of a file come to beside the pool bundle that is given, if one is
abbrev pub over : Option Pool → List ℕ → Whole
over pool bytes = record {
  parts = parts_with pool bytes;
  root = root_word bytes;
  budget = budget bytes;
  refusal = refusal_with pool bytes;
  is_file = IsFileWith pool bytes;
  denotes = DenotesWith pool bytes;
}

-- a file beside a pool has one tree, with one count
abbrev pub OneTreeWithPool : Type 0
OneTreeWithPool =
    (pool : Option Pool) (bytes : List ℕ) (t u : Tree) (m n : ℕ)
    → DenotesWith pool bytes t m → DenotesWith pool bytes u n → (t ≡ u) × (m ≡ n)

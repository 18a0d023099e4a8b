-- What the headline says of a file beside its tree.
--     DenotesWithin bytes t   the file denotes the tree t, and its budget pays for it
--     DenotesNone bytes       it denotes no tree that its budget pays for
--     DenotesWithinBeside pool bytes t, DenotesNoneBeside pool bytes     the same beside a pool
use Rattle.std.specs.Prelude.{◌≡◌, ◌≤◌, ℕ, List, Option}
use Rattle.resb_tree.specs.Tree.{Tree}
use Rattle.resb_head.specs.File.{Denotes, budget}
use Rattle.resb_pool_bundle.specs.FileWith.{DenotesWith}
use Rattle.resb_pool_bundle.specs.Pool.{Pool}

-- the file denotes the tree, with no more resources than the file's budget
abbrev pub DenotesWithin : List ℕ → Tree → Type 0
DenotesWithin bytes t = (n : ℕ) × Denotes bytes t n × (n ≤ budget bytes)

-- the file denotes no tree with no more resources than the file's budget
abbrev pub DenotesNone : List ℕ → Type 0
DenotesNone bytes = (t : Tree) → DenotesWithin bytes t → ⊥

-- two trees that a file denotes are equal, and so are their counts of resources
abbrev pub OneTreeOfAFile : Type 0
OneTreeOfAFile =
    (bytes : List ℕ) (t u : Tree) (m n : ℕ) → Denotes bytes t m → Denotes bytes u n
    → (t ≡ u) × (m ≡ n)

-- beside the pool bundle that is given, if one is, the file denotes the tree, with no more
-- resources than the file's budget
abbrev pub DenotesWithinBeside : Option Pool → List ℕ → Tree → Type 0
DenotesWithinBeside pool bytes t =
    (n : ℕ) × DenotesWith pool bytes t n × (n ≤ budget bytes)

-- beside it the file denotes no tree with no more resources than the file's budget
abbrev pub DenotesNoneBeside : Option Pool → List ℕ → Type 0
DenotesNoneBeside pool bytes = (t : Tree) → DenotesWithinBeside pool bytes t → ⊥

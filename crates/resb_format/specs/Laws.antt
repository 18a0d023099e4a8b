-- What the laws of this crate say.
--     OneTree, ReachedIsCounted   a word has one tree and count, and reaches no more resources than
--                                 that
--     DenotedBesideNoPool     what is denoted where aliases aren't read is denoted where they are
--     LooksUpAlone            without a pool the file's own keys and strings are looked up
--     DenotedAreMaps              the tables of a denoted tree are finite maps
--     Survives write reads        what is written is read back, and what is read is written as it
--                                 stood
use Rattle.std.specs.Prelude.{◌≡◌, ℕ, ◌^◌, ◌<◌, ◌≤◌, List, [], ◌∷◌, None, Ok, Result}
use Rattle.resb_tree.specs.Tree.{Tree}
use Rattle.resb_tree.specs.Maps.{AreMaps}
use Rattle.resb_format.specs.Parts.{Parts, beside_no_pool}
use Rattle.resb_format.specs.Denotes.{Den, Reaches}
use Rattle.resb_format.specs.Lookups.{key_in, text_in, wide_position}
use Rattle.resb_format.specs.Strings.{key_at, text_at}
use Rattle.resb_format.specs.declared.error.ReadingError.{ReadingError}

-- in given parts a word denotes at most one tree, with one count
abbrev pub OneTree : Type 0
OneTree = (p : Parts) (w m n : ℕ) (t u : Tree) → Den p w t m → Den p w u n → (t ≡ u) × (m ≡ n)

-- the tables of a denoted tree are maps, whose keys strictly ascend
abbrev pub DenotedAreMaps : Type 0
DenotedAreMaps = (p : Parts) (w n : ℕ) (t : Tree) → Den p w t n → AreMaps t

-- what a word denotes in a file that uses no pool, it denotes too where aliases and strings of the
-- older form are read
abbrev pub DenotedBesideNoPool : Type 0
DenotedBesideNoPool =
    (p : Parts) (w n : ℕ) (t : Tree) → p.lent ≡ None → Den p w t n → Den (beside_no_pool p) w t n

-- where nothing is said of a pool, a position of 16 or 32 bits tells the file's own key at that
-- byte, and an index a text of the file's own
abbrev pub LooksUpAlone : Type 0
LooksUpAlone = (p : Parts) (k i : ℕ) → p.lent ≡ None
    → (k < 2 ^ 16 → key_in p k ≡ key_at p.keys k)
    × (key_in p (wide_position k) ≡ key_at p.keys k)
    × (text_in p i ≡ text_at p.block i)

-- no more resources are reached than are denoted
abbrev pub ReachedIsCounted : Type 0
ReachedIsCounted = (p : Parts) (w m n : ℕ) (t : Tree) → Den p w t n → Reaches p w m → m ≤ n

-- a denoted word reaches each number up to its count
abbrev pub CountedIsReached : Type 0
CountedIsReached = (p : Parts) (w m n : ℕ) (t : Tree) → Den p w t n → 1 ≤ m → m ≤ n → Reaches p w m

-- what reaches a number reaches each smaller one
abbrev pub ReachingGoesDown : Type 0
ReachingGoesDown = (p : Parts) (w m n : ℕ) → Reaches p w n → 1 ≤ m → m ≤ n → Reaches p w m

-- whatever is written is read back as it was, and whatever is read is written as it stood
pub record Survives {A B : Type 0} (write : A → B)
    (reads : B → Result A ReadingError → Type 0) : Type 0 where
  pub read_back : (x : A) (r : Result A ReadingError) → reads (write x) r → r ≡ Ok x
  pub written_back : (b : B) (x : A) → reads b (Ok x) → write x ≡ b

-- each number is below 2 ^ n
abbrev pub EachFits : ℕ → List ℕ → Type 0
EachFits n [] = Unit {0}
EachFits n (x ∷ xs) = (x < 2 ^ n) × EachFits n xs

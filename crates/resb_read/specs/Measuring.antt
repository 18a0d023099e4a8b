-- What the tree at a file's root has and adds up to, before it is made, and a tree within a limit
-- of bytes: once for whatever a file's bytes come to.
--     HoldsPieces w xs        the pieces of the tree
--     IsMeasured m xs         how many resources these pieces are, and what they add up to
--     AnswersMeasureOf w r    what measuring the tree answers
--     FitsWithin limit xs     neither the tree nor the keys of its entries take more bytes
--     TreeFits w limit        the tree takes no more bytes
--     TreeWithinOf w limit r  what reading it within a limit answers
--     LimitedTreeOf w limit r what reading it answers, within a limit if there is one
--     IsRefusedOnceWithin w   memory aside, that refuses in one way
--     HasOneWeight w, WeighsNoMore w  the tree has one weight, and is no heavier
use Rattle.std.specs.Prelude.{◌≡◌, ◌<◌, ◌≤◌, ◌⊎◌, ℕ, List, Option, Some, None, Result, Ok, Err}
use Rattle.std.specs.Prelude.{codes, sum_by}
use Rattle.resb_tree.specs.Tree.{Tree, tree_count}
use Rattle.resb_tree.specs.declared.resource.Resource.{Resource}
use Rattle.resb_format.specs.Error.{IsInvalid, IsWantOfMemory, refusal_of}
use Rattle.resb_format.specs.declared.error.ReadingError.{ReadingError}
use Rattle.resb_walk.specs.Pieces.{Piece, Holds, pieces}
use Rattle.resb_walk.specs.Sums.{AddsUp, count_of, key_bytes_in}
use Rattle.resb_walk.specs.TreeBytes.{tree_bytes}
use Rattle.resb_read.specs.Roots.{Whole, RefusesWhole, AnswersTreeOf}
use Rattle.resb_read.specs.declared.measuring.Measured.{Measured}

-- the pieces of the tree at the root, in the order of the file
abbrev pub HoldsPieces : Whole → List Piece → Type 0
HoldsPieces w xs = Holds w.parts w.root xs

-- as many resources as are among the pieces, and their sums
pub record IsMeasured (m : Measured) (xs : List Piece) : Type 0 where
  pub resources : m.resources ≡ count_of xs
  pub sums : AddsUp m.sums xs

-- a tree within the budget, and what its pieces add up to; or the refusal of counting
abbrev pub AnswersMeasureOf : Whole → Result Measured ReadingError → Type 0
AnswersMeasureOf w (Ok m) =
    (t : Tree) × (xs : List Piece) × w.denotes t m.resources × (m.resources ≤ w.budget)
    × HoldsPieces w xs × IsMeasured m xs
AnswersMeasureOf w (Err e) = RefusesWhole w e

-- the error says that the tree would take more bytes than it may
abbrev pub IsLarger : ReadingError → Type 0
IsLarger e = IsInvalid e (codes "tree larger than the limit")

-- the error says that the keys of the tree's entries have more bytes than they may
abbrev pub HasLargerKeys : ReadingError → Type 0
HasLargerKeys e = IsInvalid e (codes "keys larger than the limit")

-- the bytes of the keys of all entries, be they shared or not: each of them may be compared where
-- the tree is made
abbrev pub key_bytes : List Piece → ℕ
key_bytes xs = sum_by key_bytes_in xs

-- a tree of these pieces takes no more bytes than the limit, nor do the keys of its entries
abbrev pub FitsWithin : ℕ → List Piece → Type 0
FitsWithin limit xs = (tree_bytes xs ≤ limit) × (key_bytes xs ≤ limit)

-- the tree of the file takes no more bytes than the limit, whatever the keys of its entries take
abbrev pub TreeFits : Whole → ℕ → Type 0
TreeFits w limit = (xs : List Piece) × HoldsPieces w xs × (tree_bytes xs ≤ limit)

-- a tree is denoted within the budget, and in this sum its pieces have more bytes than the limit
pub record TakesMoreOf (sum : List Piece → ℕ) (w : Whole) (limit : ℕ) : Type 0 where
  pub tree : Tree
  pub count : ℕ
  pub holding : List Piece
  pub denotes : w.denotes tree count
  pub within : count ≤ w.budget
  pub holds : HoldsPieces w holding
  pub more : limit < sum holding

-- the tree, where neither it nor the keys of its entries take more bytes than the limit; or its
-- refusal, or that of a tree that takes more, or of keys that do where the tree doesn't
abbrev pub TreeWithinOf : Whole → ℕ → Result Resource ReadingError → Type 0
TreeWithinOf w limit (Ok r) =
    AnswersTreeOf w (Ok r) × ((xs : List Piece) × HoldsPieces w xs × FitsWithin limit xs)
TreeWithinOf w limit (Err e) =
    RefusesWhole w e
    ⊎ ((IsLarger e × TakesMoreOf tree_bytes w limit)
    ⊎ (HasLargerKeys e × TreeFits w limit × TakesMoreOf key_bytes w limit))

-- what reading the tree answers, within the limit if there is one
abbrev pub LimitedTreeOf : Whole → Option ℕ → Result Resource ReadingError → Type 0
LimitedTreeOf w None r = AnswersTreeOf w r
LimitedTreeOf w (Some limit) r = TreeWithinOf w limit r

-- two refusals of reading the tree within a limit are equal, by kind and message, unless one is
-- want of memory; and where the tree is read within it, only want of memory refuses it
pub record IsRefusedOnceWithin (w : Whole) : Type 0 where
  pub once : (limit : ℕ) (d e : ReadingError) → TreeWithinOf w limit (Err d)
      → TreeWithinOf w limit (Err e)
      → (IsWantOfMemory d ⊎ IsWantOfMemory e) ⊎ (refusal_of d ≡ refusal_of e)
  pub read : (limit : ℕ) (r : Resource) (e : ReadingError) → TreeWithinOf w limit (Ok r)
      → TreeWithinOf w limit (Err e) → IsWantOfMemory e

-- the tree has one list of pieces, and so one of each sum
abbrev pub HasOneWeight : Whole → Type 0
HasOneWeight w = (xs ys : List Piece) → HoldsPieces w xs → HoldsPieces w ys → xs ≡ ys

-- The pieces of the tree are as many resources as are counted. By any weights of pieces they weigh
-- no less than those of the tree, and the same where the tree has as many resources as are counted,
-- so that no entry is replaced.
abbrev pub WeighsNoMore : Whole → Type 0
WeighsNoMore w =
    (weight : Piece → ℕ) (t : Tree) (n : ℕ) (xs : List Piece) → w.denotes t n → HoldsPieces w xs
    → (count_of xs ≡ n) × (sum_by weight (pieces t) ≤ sum_by weight xs)
    × (tree_count t ≡ n → sum_by weight (pieces t) ≡ sum_by weight xs)

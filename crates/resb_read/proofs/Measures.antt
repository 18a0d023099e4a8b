-- What the tree at a root adds up to, by what was counted and summed there.
use Rattle.std.proofs.Common.{ℕ, List, ◌≡◌, ◌≤◌, ◌+◌, ◌⊎◌, inl, inr, Result, Ok, Err}
use Rattle.std.proofs.Common.{None}
use Rattle.std.proofs.Common.{sym}
use Rattle.std.proofs.Common.{◌∙◌, ap, subst, arith}
use Rattle.std.specs.Prelude.{sum_by}
use Rattle.resb_tree.specs.Tree.{Tree, tree_count}
use Rattle.resb_tree.specs.declared.resource.Resource.{Resource}
use Rattle.resb_format.specs.Denotes.{Den}
use Rattle.resb_format.specs.Error.{IsWantOfMemory}
use Rattle.resb_format.specs.Parts.{Parts}
use Rattle.resb_format.specs.declared.error.ReadingError.{ReadingError}
use Rattle.resb_walk.specs.Pieces.{Piece, pieces}
use Rattle.resb_walk.specs.Sums.{AddsUp, count_of}
use Rattle.resb_walk.specs.TreeBytes.{tree_bytes}
use Rattle.resb_walk.specs.declared.sums.Sums.{Sums}
use Rattle.resb_walk.proofs.Holding.{denoted_is_held, one_holding}
use Rattle.resb_walk.proofs.TreePieces.{tree_within}
use Rattle.resb_read.specs.Inner.AtRoot.{IsRoot, RefusesHere, CountHere, MeasureHere}
use Rattle.resb_read.specs.Inner.AtRoot.{MoreHere, TreeWithinHere}
use Rattle.resb_read.specs.Measuring.{HoldsPieces, AnswersMeasureOf, TakesMoreOf, TreeWithinOf}
use Rattle.resb_read.specs.Measuring.{key_bytes}
use Rattle.resb_read.specs.Measuring.{HasOneWeight, WeighsNoMore}
use Rattle.resb_read.specs.Places.{Place}
use Rattle.resb_read.specs.Resources.{DenSpot, DenPlace, HoldsSpot, HoldsPlace}
use Rattle.resb_read.specs.Roots.{Whole, alone, place_of_root}
use Rattle.resb_read.specs.declared.cursor.Spot.{Spot}
use Rattle.resb_read.specs.declared.measuring.Measured.{Measured}
use Rattle.resb_read.proofs.Rooted.{IsLinked, denoted_root, refused_root, tree_root}

abbrev Pieced : Parts → ℕ → Spot → Type 0
Pieced p n s = (xs : List Piece) × HoldsSpot p s xs × (count_of xs ≡ n)

-- what is denoted at a root has pieces
pub held_here : (p : Place) (t : Tree) (n : ℕ) → IsRoot p → DenPlace p t n
    → (xs : List Piece) × HoldsPlace p xs × (count_of xs ≡ n)
held_here p t n (w, at) d =
    subst (λ s. DenSpot p.parts s t n → Pieced p.parts n s) (sym at)
    (λ e. denoted_is_held p.parts e) d

-- a root has one list of pieces
one_here : (p : Place) (xs ys : List Piece) → IsRoot p → HoldsPlace p xs → HoldsPlace p ys
    → xs ≡ ys
one_here p xs ys (w, at) =
    subst (λ s. HoldsSpot p.parts s xs → HoldsSpot p.parts s ys → xs ≡ ys) (sym at)
    (λ h k. one_holding p.parts h k)

-- counted and summed
pub measure_here : (p : Place) (left n : ℕ) (s : Sums) (xs : List Piece)
    → IsRoot p → CountHere p left (Ok n) → HoldsPlace p xs → AddsUp s xs
    → MeasureHere p left (Ok (record { resources = n; sums = s }))
measure_here p left n s xs root (t, d, paid) h adds =
    let other = held_here p t n root d in
    let one : xs ≡ other.0 = one_here p xs other.0 root h other.1 in (
      (t, d, paid),
      xs,
      h,
      record { resources = sym (ap count_of one ∙ other.2); sums = adds },
    )

-- a request for memory was refused
pub memory_refuses : (p : Place) (left : ℕ) (e : ReadingError) → IsWantOfMemory e
    → RefusesHere p left e
memory_refuses p left e m = (inl m, λ f. absurd (f.not_memory m.kind_is))

pub measure_root : (w : Whole) (p : Place) (left : ℕ) (r : Result Measured ReadingError)
    → IsLinked w → w.refusal ≡ None → p ≡ place_of_root w → left ≡ w.budget
    → MeasureHere p left r → AnswersMeasureOf w r
measure_root w p left (Ok m) l none same all ((t, d, paid), xs, h, adds) = (
  t,
  xs,
  denoted_root w p t m.resources l none same d,
  omega (arith, all, paid),
  subst (λ q. HoldsPlace q xs) same h,
  adds,
)
measure_root w p left (Err e) l none same all h = refused_root w p left e l none same all h

-- a tree that has more in a sum at the root has so in the file
more_root : (sum : List Piece → ℕ) (w : Whole) (p : Place) (left limit : ℕ)
    → IsLinked w → w.refusal ≡ None → p ≡ place_of_root w → left ≡ w.budget
    → MoreHere sum p left limit → TakesMoreOf sum w limit
more_root sum w p left limit l none same all (n, (t, d, paid), xs, holds, over) = record {
  tree = t;
  count = n;
  holding = xs;
  denotes = denoted_root w p t n l none same d;
  within = omega (arith, all, paid);
  holds = subst (λ q. HoldsPlace q xs) same holds;
  more = over;
}

pub within_root : (w : Whole) (p : Place) (left limit : ℕ) (r : Result Resource ReadingError)
    → IsLinked w → w.refusal ≡ None → p ≡ place_of_root w → left ≡ w.budget
    → TreeWithinHere p left limit r → TreeWithinOf w limit r
within_root w p left limit (Ok x) l none same all (h, xs, holds, fits) = (
  tree_root w p left (Ok x) l none same all h,
  (xs, subst (λ q. HoldsPlace q xs) same holds, fits),
)
within_root w p left limit (Err e) l none same all (inl h) =
    inl (refused_root w p left e l none same all h)
within_root w p left limit (Err e) l none same all (inr (inl (is, more))) =
    inr (inl (is, more_root tree_bytes w p left limit l none same all more))
within_root w p left limit (Err e) l none same all (inr (inr (is, (xs, holds, fits), more))) =
    inr (inr (
      is,
      (xs, subst (λ q. HoldsPlace q xs) same holds, fits),
      more_root key_bytes w p left limit l none same all more,
    ))

-- the laws
pub one_weight_of : (w : Whole) (xs ys : List Piece) → HoldsPieces w xs → HoldsPieces w ys
    → xs ≡ ys
one_weight_of w xs ys h k = one_holding w.parts h k

pub one_weight : (bytes : List ℕ) → HasOneWeight (alone bytes)
one_weight bytes = one_weight_of (alone bytes)

pub no_more_of : (f : Piece → ℕ) (w : Whole) (t : Tree) (n : ℕ) (xs : List Piece)
    → Den w.parts w.root t n → HoldsPieces w xs
    → (count_of xs ≡ n) × (sum_by f (pieces t) ≤ sum_by f xs)
    × (tree_count t ≡ n → sum_by f (pieces t) ≡ sum_by f xs)
no_more_of f w t n xs d h =
    let within = tree_within f w.parts d h in
    let other = denoted_is_held w.parts d in
    let one : xs ≡ other.0 = one_holding w.parts h other.1 in (
      ap count_of one ∙ other.2,
      within.first,
      λ same. equal same within.either,
    )
  where
    equal : tree_count t ≡ n
        → (sum_by f (pieces t) ≡ sum_by f xs) ⊎ (tree_count t + 1 ≤ n)
        → sum_by f (pieces t) ≡ sum_by f xs
    equal same (inl e) = e
    equal same (inr l) = absurd (omega (arith, same, l))

pub trees_weigh_no_more : (bytes : List ℕ) → WeighsNoMore (alone bytes)
trees_weigh_no_more bytes f t n xs d h = no_more_of f (alone bytes) t n xs d.root h

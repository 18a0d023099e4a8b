-- Keys in the order from the end, in which those that end with a key stand in one run.
--     is_up_to k j            j ends with k, or stands before it
--     AreByEnd js ss          ss are the keys js in that order
use Rattle.std.specs.Prelude.{ℕ, ◌||◌, List, reverse, nat_eq, Bool}
use Rattle.std.specs.Borrow.{Bor}
use Rattle.std.specs.List.{ends_with}
use Rattle.std.specs.List.Sorted.{IsPermutation, IsSortedBy}
use Rattle.std.specs.Ordering.{is_lt}
use Rattle.resb_tree.specs.Maps.{text_cmp}
use Rattle.resb_pool.specs.Plan.{nows}

-- j stands before k, by their bytes from the last to the first
abbrev pub is_before : List ℕ → List ℕ → Bool
is_before j k = is_lt (text_cmp (reverse j) (reverse k))

-- j ends with k, or stands before it
abbrev pub is_up_to : List ℕ → List ℕ → Bool
is_up_to k j = ends_with nat_eq j k || is_before j k

-- the borrowed keys are the keys, and ascend in that order
pub record AreByEnd (js : List (List ℕ)) (ss : List (Bor (List ℕ))) : Type 0 where
  pub all : IsPermutation js (nows ss)
  pub ascend : IsSortedBy (λ (x y : Bor (List ℕ)). is_before x.now y.now) ss

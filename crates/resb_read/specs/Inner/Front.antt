-- What has been read is the front of the members, and the budget has fallen by its count.
use Rattle.std.specs.Prelude.{ℕ, List, [], ◌++◌, ◌≡◌, ◌+◌}
use Rattle.std.specs.declared.cmp.Ordering.{Ordering}
use Rattle.resb_read.specs.Places.{Place}
use Rattle.resb_read.specs.Sequences.{ReadsEach, ReadsEntry, put_each}

pub record Front {X : Type 0} (reads : Place → X → ℕ → Type 0) (all rest : List Place)
    (values : List X) (before left : ℕ) : Type 0 where
  pub done : List Place
  pub spent : ℕ
  pub are : all ≡ done ++ rest
  pub each : ReadsEach reads done values spent
  pub paid : left + spent ≡ before

pub record FrontEntries {K X : Type 0} (cmp : K → K → Ordering) (key : Place → K → ℕ → Type 0)
    (value : Place → X → ℕ → Type 0) (all rest : List (Place × Place)) (m : List (K × X))
    (before left : ℕ) : Type 0 where
  pub done : List (Place × Place)
  pub read : List (K × X)
  pub spent : ℕ
  pub are : all ≡ done ++ rest
  pub each : ReadsEach (ReadsEntry key value) done read spent
  pub map : m ≡ put_each cmp [] read
  pub paid : left + spent ≡ before

-- The runs that were found.
--     ListsRuns keys start rs     rs are the runs that begin before this place
use Rattle.std.specs.Prelude.{ℕ, ◌<◌, List, All, Contains, map}
use Rattle.resb_lent.specs.LentEnds.{IsRun}
use Rattle.resb_lent.specs.LendingEnds.{run_of}
use Rattle.resb_lent.specs.declared.ends.LentRun.{LentRun}

pub record ListsRuns (keys : List ℕ) (start : ℕ) (rs : List LentRun) : Type 0 where
  pub sound : All (λ r. IsRun keys (run_of r)) rs
  pub complete : (e : List ℕ × ℕ) → IsRun keys e → e.1 < start → Contains (map run_of rs) e

-- all of them
pub record ListsAllRuns (keys : List ℕ) (rs : List LentRun) : Type 0 where
  pub sound : All (λ r. IsRun keys (run_of r)) rs
  pub complete : (e : List ℕ × ℕ) → IsRun keys e → Contains (map run_of rs) e

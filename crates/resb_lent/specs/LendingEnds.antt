-- Whose keys' ends are lent.
--     run_of r                a key of the pool as the definitions see it
--     last_ending rs k        the last one in a list that ends with the key k
--     end_place l js k        where k lies at the end of a key of the pool
--     LendsEnds l keys        l has the keys of a pool, in their order
use Rattle.std.specs.Prelude.{ℕ, List, [], ◌∷◌, Option, Some, None, option_map, map, All}
use Rattle.std.specs.Prelude.{Contains, nat_eq, if◌then◌else◌}
use Rattle.std.specs.List.{ends_with}
use Rattle.std.specs.List.Sorted.{IsSortedBy}
use Rattle.std.specs.Option.{option_or}
use Rattle.std.specs.Ordering.{is_lt}
use Rattle.resb_lent.specs.LentEnds.{IsRun, run_cmp, place_at_end}
use Rattle.resb_lent.specs.declared.ends.LentRun.{LentRun}
use Rattle.resb_lent.specs.declared.ends.LentEnds.{LentEnds}

-- its bytes, and where it stands
abbrev pub run_of : LentRun → List ℕ × ℕ
run_of r = (r.bytes.now, r.at)

-- the last one in a list that ends with a key
abbrev pub last_ending : List LentRun → List ℕ → Option LentRun
last_ending [] k = None
last_ending (r ∷ rs) k =
    option_or (last_ending rs k) (if ends_with nat_eq r.bytes.now k then Some r else None)

-- where a key lies in the pool, at the end of the last one
abbrev pub end_place : LentEnds → List (List ℕ) → List ℕ → Option ℕ
end_place l js k = place_at_end (option_map run_of (last_ending l.runs.items k)) js k

-- just the runs of the pool's keys, sorted
pub record LendsEnds (l : LentEnds) (keys : List ℕ) : Type 0 where
  pub sound : All (λ r. IsRun keys (run_of r)) l.runs.items
  pub complete : (e : List ℕ × ℕ) → IsRun keys e → Contains (map run_of l.runs.items) e
  pub sorted : IsSortedBy (λ x y. is_lt (run_cmp (run_of x) (run_of y))) l.runs.items

-- Where a compact file's keys lie in a pool bundle: at the ends of the pool's keys. (ICU's `genrb`:
-- key ends over a pool.)
--     IsRun keys e            e is a key of the pool, and the byte at which it stands
--     EndsLast keys k e       it ends with k, and of those that do it comes last
--     LendsEnd keys k o       o is that one, or none where there is no such
--     place_at_end o js k     where k lies in the pool then, beside the file's keys js
--     LiesInPool keys js k o  o is where k lies in the pool, or none where it lies in the file
use Rattle.std.specs.Prelude.{◌≡◌, ℕ, ◌+◌, ◌-◌, ◌<◌, ◌^◌, ◌||◌, List, reverse, length, drop, Bool}
use Rattle.std.specs.Prelude.{true, nat_eq, Option, Some, None, MatchOption, if◌then◌else◌}
use Rattle.std.specs.List.{ends_with}
use Rattle.std.specs.Ordering.{nat_cmp, ordering_then, is_lt}
use Rattle.std.specs.declared.cmp.Ordering.{Ordering}
use Rattle.std.specs.declared.cmp.Ordering.TheVariants.{Less}
use Rattle.resb_tree.specs.Maps.{text_cmp}
use Rattle.resb_format.specs.Strings.{before_zero}
use Rattle.resb_pool.specs.Order.{end_last_cmp}
use Rattle.resb_layout.specs.CompactKeys.{container}
use Rattle.resb_lent.specs.LentKeys.{begins_key}

-- a run of bytes begins at this place, at the start or right behind a zero byte; it is what stands
-- there up to the next zero byte, and a position of 31 bits reaches its end
pub record IsRun (keys : List ℕ) (e : List ℕ × ℕ) : Type 0 where
  pub begins : begins_key keys e.1 ≡ true
  pub bytes : before_zero (drop e.1 keys) ≡ Some e.0
  pub near : e.1 + length e.0 < 2 ^ 31

-- the order of runs by their bytes from the last to the first, the end of a run being the greatest;
-- of two that are the same, the later one comes later
abbrev pub run_cmp : List ℕ × ℕ → List ℕ × ℕ → Ordering
run_cmp e f = ordering_then (end_last_cmp (reverse e.0) (reverse f.0)) (nat_cmp e.1 f.1)

-- a run of the pool ends with the key, and in that order no run that does comes behind it
pub record EndsLast (keys k : List ℕ) (e : List ℕ × ℕ) : Type 0 where
  pub run : IsRun keys e
  pub ends : ends_with nat_eq e.0 k ≡ true
  pub last : (f : List ℕ × ℕ) → IsRun keys f → ends_with nat_eq f.0 k ≡ true
      → run_cmp e f ≡ Less → ⊥

-- a run is given exactly where one ends with the key, and it is the last one
abbrev pub LendsEnd : List ℕ → List ℕ → Option (List ℕ × ℕ) → Type 0
LendsEnd keys k o =
    MatchOption o ((f : List ℕ × ℕ) → IsRun keys f → ends_with nat_eq f.0 k ≡ true → ⊥)
    (EndsLast keys k)

-- the key c ends with the run, or it stands before it by the bytes from the last to the first
abbrev pub is_not_behind : List ℕ → List ℕ → Bool
is_not_behind run c = ends_with nat_eq c run || is_lt (text_cmp (reverse c) (reverse run))

-- a key lies at the end of that run, unless the key of the file in which it would lie without the
-- pool is behind the run
abbrev pub place_at_end : Option (List ℕ × ℕ) → List (List ℕ) → List ℕ → Option ℕ
place_at_end None js k = None
place_at_end (Some e) js k =
    if is_not_behind e.0 (container js k) then Some (e.1 + (length e.0 - length k)) else None

-- so, of the last run that ends with the key
pub record LiesInPool (keys : List ℕ) (js : List (List ℕ)) (k : List ℕ) (o : Option ℕ)
    : Type 0 where
  pub run : Option (List ℕ × ℕ)
  pub lends : LendsEnd keys k run
  pub place : o ≡ place_at_end run js k

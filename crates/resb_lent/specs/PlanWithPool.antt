-- How the strings of a file stand that uses a pool bundle: where the pool has them, and the others
-- in records of the file's own. (ICU's `reslist.cpp`, `uresdata.h`: string index limits.)
--     AreLentBy way block A S os  os is what the pool has of the texts S, one answer for each, in
--                                 a file of the strings A that is packed this way
--     lacking S os                those of S that the pool lacks
--     short_limit_of limit own    the first index of the file's own, as a unit tells it
--     StandAt S is offset         each index that is given is that of one of the strings S
--     IsPlanWithBy way block S us is limit short   how the strings S stand in a file that is packed
--                                 this way
--     NotPlannedWithBy way block S e      the error e is the answer for S
use Rattle.std.specs.Prelude.{◌≡◌, ℕ, ◌+◌, ◌*◌, ◌/◌, ◌^◌, ◌<◌, ◌≤◌, List, [], ◌∷◌, map, max}
use Rattle.std.specs.Prelude.{Option, Some, None, ◌&&◌, nat_le, nat_eq, slice_get, if◌then◌else◌}
use Rattle.std.specs.Prelude.{All}
use Rattle.std.specs.Str.{IsUtf8}
use Rattle.resb_pool.specs.Plan.{IsPlanAmong, NotPlanned}
use Rattle.resb_pool.specs.declared.packing.Packing.{Packing}
use Rattle.resb_pool.specs.declared.error.PlanError.{PlanError}
use Rattle.resb_pool.specs.declared.error.PlanError.TheVariants.{TooLarge, OutOfMemory}
use Rattle.resb_lent.specs.LentBeside.{IsTextBeside, LendsTextBy}

-- one answer for each text of a file of the strings A: its index in the pool, or none where the
-- pool lacks it
pub data AreLentBy (way : Packing) (block : List ℕ) (A : List (List ℕ))
    : List (List ℕ) → List (Option ℕ) → Type 0 where
  lent_none : AreLentBy way block A [] []
  lent_more : {s : List ℕ} {ss : List (List ℕ)} {o : Option ℕ} {os : List (Option ℕ)}
      → LendsTextBy way block A s o → AreLentBy way block A ss os
      → AreLentBy way block A (s ∷ ss) (o ∷ os)

-- the texts without an index, in their order
abbrev pub lacking : List (List ℕ) → List (Option ℕ) → List (List ℕ)
lacking [] os = []
lacking (s ∷ ss) [] = []
lacking (s ∷ ss) (Some i ∷ os) = lacking ss os
lacking (s ∷ ss) (None ∷ os) = s ∷ lacking ss os

-- the indexes that there are
abbrev pub given : List (Option ℕ) → List ℕ
given [] = []
given (Some i ∷ os) = i ∷ given os
given (None ∷ os) = given os

-- one more than an index, and 0 for that of the empty text, which has no place of its own
abbrev pub behind : ℕ → ℕ
behind i = if nat_eq i 0 then 0 else i + 1

-- one more than the greatest index, and 0 where there is none but the empty text's
abbrev pub limit_of : List ℕ → ℕ
limit_of [] = 0
limit_of (i ∷ is) = max (behind i) (limit_of is)

-- where indexes in the pool end at a limit, and those of the file's own so many behind it: the same
-- limit, if units can tell all of them, and else its share of the units
abbrev pub short_limit_of : ℕ → ℕ → ℕ
short_limit_of limit own =
    if nat_le limit 65535 && nat_le (limit + own) 65536 then limit
    else limit * 65535 / (limit + own)

-- each text's index: in the pool, or in turn the next of the file's own, from the limit on
abbrev pub in_turn : ℕ → List (Option ℕ) → List ℕ → List ℕ
in_turn limit [] ks = []
in_turn limit (Some i ∷ os) ks = i ∷ in_turn limit os ks
in_turn limit (None ∷ os) [] = []
in_turn limit (None ∷ os) (k ∷ ks) = (limit + k) ∷ in_turn limit os ks

-- a text that has an index is one of these strings, and it is that string's
abbrev pub StandAt : List (List ℕ) → List ℕ → (List ℕ → Option ℕ) → Type 0
StandAt S is offset =
    (s : List ℕ) (i : ℕ) → offset s ≡ Some i
    → (n : ℕ) × (slice_get S n ≡ Some s) × (slice_get is n ≡ Some i)

-- The strings that the pool has stand there, and the limit is behind the greatest index that is
-- used. The others are planned among all texts of the file and of the pool, and stand from the
-- limit on.
pub record IsPlanWithBy (way : Packing) (block : List ℕ) (S : List (List ℕ)) (us is : List ℕ)
    (limit short : ℕ) : Type 0 where
  pub texts : All IsUtf8 S
  pub found : List (Option ℕ)
  pub lent : AreLentBy way block S S found
  pub offset : List ℕ → Option ℕ
  pub offsets : List ℕ
  pub plan : IsPlanAmong way (IsTextBeside block S) (lacking S found) us offset
  pub offsets_are : map offset (lacking S found) ≡ map Some offsets
  pub limit_is : limit ≡ limit_of (given found)
  pub short_is : short ≡ short_limit_of limit (limit_of offsets)
  -- indexes have 28 bits
  pub room : limit + limit_of offsets ≤ 2 ^ 28
  pub indexes_are : is ≡ in_turn limit found offsets

-- why strings have no plan: want of memory, a fault of those that the pool lacks, or indexes of
-- more than 28 bits
pub data NotPlannedWithBy (way : Packing) (block : List ℕ) (S : List (List ℕ))
    : PlanError → Type 0 where
  no_memory : NotPlannedWithBy way block S OutOfMemory
  own_fault : {e : PlanError} (found : List (Option ℕ)) → AreLentBy way block S S found
      → NotPlanned (lacking S found) e → NotPlannedWithBy way block S e
  too_far : (found : List (Option ℕ)) (us offsets : List ℕ) (offset : List ℕ → Option ℕ)
      → AreLentBy way block S S found
      → IsPlanAmong way (IsTextBeside block S) (lacking S found) us offset
      → map offset (lacking S found) ≡ map Some offsets
      → 2 ^ 28 < limit_of (given found) + limit_of offsets
      → NotPlannedWithBy way block S TooLarge

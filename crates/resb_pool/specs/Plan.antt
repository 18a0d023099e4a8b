-- What a plan is, and why strings aren't planned.
--     plan_units p            its units: unit 0 and the records
--     offset_of p s           where the text s stands, if it was given
--     turn_offsets p          the offset of each string, in the order in which they were given
--     IsPlanAmong way A S us offset   these are the units and offsets of the strings S, in a file
--                             that is packed this way, where A are its texts and those beside it
--     IsPlanBy way S us offset    the same of a file of just these strings
--     NotPlanned S e          the error e is the answer for the strings S
use Rattle.std.specs.Prelude.{◌≡◌, ℕ, ◌+◌, ◌^◌, ◌≤◌, List, [], ◌∷◌, length, Option, Some, None}
use Rattle.std.specs.Prelude.{MatchOption, All, Contains, nat_le, sum_by, map, slice_get}
use Rattle.std.specs.Prelude.{slice_index}
use Rattle.std.specs.Prelude.{if◌then◌else◌}
use Rattle.std.specs.Borrow.{Bor}
use Rattle.std.specs.Str.{bytes_eq, IsUtf8}
use Rattle.std.specs.Option.{option_and_then}
use Rattle.indexmap.specs.IndexMap.{IndexMap, get_by}
use Rattle.indexmap.specs.IndexSet.{index_of_by}
use Rattle.resb_format.specs.Units.{units}
use Rattle.resb_pool.specs.Pool.{IsPool, Off}
use Rattle.resb_pool.specs.declared.packing.Packing.{Packing}
use Rattle.resb_pool.specs.declared.offsets.Plan.{Plan}
use Rattle.resb_pool.specs.declared.error.PlanError.{PlanError}
use Rattle.resb_pool.specs.declared.error.PlanError.TheVariants.{StringTooLong, TooLarge}
use Rattle.resb_pool.specs.declared.error.PlanError.TheVariants.{OutOfMemory}

-- the texts that borrowed strings are
abbrev pub nows : List (Bor (List ℕ)) → List (List ℕ)
nows xs = map (λ x. x.now) xs

-- what a map has at the text q
abbrev pub at_text : {V H : Type 0} → IndexMap (Bor (List ℕ)) V H → List ℕ → Option V
at_text m q = get_by (λ k. bytes_eq q k.now) m

-- the 16-bit units of a plan's pool
abbrev pub plan_units : Plan → List ℕ
plan_units p = p.units.items

-- where a plan has the text in its pool, if it has it
abbrev pub offset_of : Plan → List ℕ → Option ℕ
offset_of p s = option_and_then (slice_get p.offsets.items) (index_of_by (λ k. bytes_eq s k.now)
    p.texts)

-- the offset at each string's index, in the order in which they were given
abbrev pub turn_offsets : Plan → List ℕ
turn_offsets p = map (slice_index p.offsets.items) p.order.items

-- the units are the pool of the strings, and just the given texts have offsets: where they stand in
-- it
pub record IsPlanAmong (way : Packing) (A : List ℕ → Type 0) (S : List (List ℕ)) (us : List ℕ)
    (offset : List ℕ → Option ℕ) : Type 0 where
  pub texts : All IsUtf8 S
  -- no text is too long
  pub short : All (λ s. length (units s) ≤ 4294967295) S
  pub room : length us ≤ 2 ^ 28
  pub records : List (List ℕ)
  pub pool : IsPool way A S records us
  -- a text has an offset exactly where it was given
  pub offsets : (s : List ℕ) → MatchOption (offset s) (Contains S s → ⊥) (λ k. Contains S s
      × Off way S records s k)

-- the same of a file that has no other texts, and none beside it
abbrev pub IsPlanBy : Packing → List (List ℕ) → List ℕ → (List ℕ → Option ℕ) → Type 0
IsPlanBy way S us offset = IsPlanAmong way (Contains S) S us offset

-- the number of units of the first text of more than 4294967295
abbrev pub first_too_long : List (List ℕ) → Option ℕ
first_too_long [] = None
first_too_long (s ∷ ss) = if nat_le (length (units s)) 4294967295 then first_too_long ss else Some
    (length (units s))

-- 16 for each text and its units, as often as it is given
abbrev pub texts_size : List (List ℕ) → ℕ
texts_size ss = sum_by (λ s. 16 + length (units s)) ss

-- why strings have no plan: want of memory, the first string that is too long, or a pool of
-- 2^28 units and more
pub data NotPlanned (S : List (List ℕ)) : PlanError → Type 0 where
  no_memory : NotPlanned S OutOfMemory
  too_long : {n : ℕ} → first_too_long S ≡ Some n → NotPlanned S (StringTooLong n)
  too_large : first_too_long S ≡ None → 2 ^ 28 ≤ texts_size S → NotPlanned S TooLarge

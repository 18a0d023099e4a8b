-- What the laws of pools say.
--     RecordsCostLeast        no layout takes fewer units than the records
--     PoolIsRead              each text is read back where it stands, whatever follows the pool
--     OnePool                 strings have one pool of each packing, and each text one offset in it
use Rattle.std.specs.Prelude.{◌≡◌, ℕ, ◌<◌, ◌≤◌, List, ◌++◌, length, Option, Some, All, sum_by}
use Rattle.std.specs.Str.{IsUtf8}
use Rattle.resb_format.specs.Units.{size}
use Rattle.resb_format.specs.Strings.{text_at}
use Rattle.resb_pool.specs.Records.{IsRecords, IsLayout}
use Rattle.resb_pool.specs.Plan.{IsPlanBy}
use Rattle.resb_pool.specs.declared.packing.Packing.{Packing}

-- in 16-bit units, markers and closing zeros included
abbrev pub RecordsCostLeast : Type 0
RecordsCostLeast = (S Q R : List (List ℕ)) → All IsUtf8 S → IsRecords S Q → IsLayout S R
    → sum_by size Q ≤ sum_by size R

-- a text with an offset is read back there, whatever follows the pool
abbrev pub PoolIsRead : Type 0
PoolIsRead =
    (way : Packing) (S : List (List ℕ)) (us : List ℕ) (offset : List ℕ → Option ℕ)
    → IsPlanBy way S us offset
    → (s : List ℕ) (k : ℕ) → offset s ≡ Some k
    → (k < length us) × ((rest : List ℕ) → text_at (us ++ rest) k ≡ Some s)

-- two plans of the same strings and packing have the same units and the same offsets
abbrev pub OnePool : Type 0
OnePool =
    (way : Packing) (S : List (List ℕ)) (us vs : List ℕ) (offset place : List ℕ → Option ℕ)
    → IsPlanBy way S us offset → IsPlanBy way S vs place
    → (us ≡ vs) × (offset ≡ place)

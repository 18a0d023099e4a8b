-- Where a key stands at the end of the one in which it lies.
--     near_end_position js ks k       where k stands, whose container stands among the keys ks
--     place_by l js k         where the key k lies in the pool that l has, if one is used
--     more_by l               by how much the file's own keys begin later over a pool
--     lent_position o         the position of a key at this place of the pool
--     told_at_end more place js ks k  the position of k, which lies in the pool or stands as above
--     IsKeyEnd place js k e, AreKeyEnds place js ks es    the ends say where keys lie
--     IsEndBlock place more us ks js ps   of used keys us and a list ks: those that stand in the
--                             file, and where the used ones stand
use Rattle.std.specs.Prelude.{◌≡◌, ℕ, ◌+◌, ◌-◌, ◌<◌, ◌^◌, min, List, [], length, map, filter}
use Rattle.std.specs.Prelude.{Option, Some, None, All, Bool, ◌&&◌, unwrap_or, option_map}
use Rattle.std.specs.Prelude.{slice_index_or}
use Rattle.std.specs.Borrow.{Bor}
use Rattle.std.specs.Option.{is_none}
use Rattle.std.specs.Str.{IsUtf8}
use Rattle.resb_tree.specs.Keys.{same_text}
use Rattle.resb_layout.specs.CompactKeys.{container}
use Rattle.resb_layout.specs.KeyBlock.{used}
use Rattle.resb_layout.specs.TreeFaults.{key_fault}
use Rattle.resb_lent.specs.LendingEnds.{LendsEnds, end_place}
use Rattle.resb_lent.specs.declared.ends.LentEnds.{LentEnds}
use Rattle.resb_write.specs.Inner.NearPositions.{near_position_in}
use Rattle.resb_write.specs.declared.end_keys.KeyEnd.{KeyEnd}

abbrev pub near_end_position : List (List ℕ) → List (List ℕ) → List ℕ → ℕ
near_end_position js ks k =
    min (unwrap_or (near_position_in ks (container js k)) 0
    + min (length (container js k) - length k) (2 ^ 32 - 1)) (2 ^ 32 - 1)

abbrev pub IsLent : Bor LentEnds → Type 0
IsLent l = (keys : List ℕ) × LendsEnds l.now keys

abbrev pub place_by : Option (Bor LentEnds) → List (List ℕ) → List ℕ → Option ℕ
place_by None js k = None
place_by (Some l) js k = end_place l.now js k

abbrev pub more_by : Option (Bor LentEnds) → ℕ
more_by None = 0
more_by (Some l) = 4

abbrev pub lent_position : Option ℕ → Option ℕ
lent_position o = option_map (λ n. n + 2 ^ 31) o

abbrev pub told_by : ℕ → Option ℕ → ℕ → ℕ
told_by more (Some n) own = n + 2 ^ 31
told_by more None own = min (own + more) (2 ^ 32 - 1)

abbrev pub told_at_end : ℕ → (List ℕ → Option ℕ) → List (List ℕ) → List (List ℕ) → List ℕ → ℕ
told_at_end more place js ks k = told_by more (place k) (near_end_position js ks k)

-- it has the key's container, and its position in the pool
pub record IsKeyEnd (place : List ℕ → Option ℕ) (js : List (List ℕ)) (k : List ℕ) (e : KeyEnd)
    : Type 0 where
  pub container_is : e.container.now ≡ container js k
  pub lent_is : e.lent ≡ lent_position (place k)

abbrev pub AreKeyEnds : (List ℕ → Option ℕ) → List (List ℕ) → List (List ℕ) → List KeyEnd → Type 0
AreKeyEnds place js ks es = (i : ℕ) (d : KeyEnd) → i < length ks
    → IsKeyEnd place js (slice_index_or ks i []) (slice_index_or es i d)

-- whether a key stands in the file: it lies in itself, and not in the pool
abbrev pub is_own : (List ℕ → Option ℕ) → List (List ℕ) → List ℕ → Bool
is_own place js k = is_none (place k) && same_text k (container js k)

pub record IsEndBlock (place : List ℕ → Option ℕ) (more : ℕ) (us ks js : List (List ℕ))
    (ps : List ℕ) : Type 0 where
  pub own : js ≡ filter (is_own place (used us ks)) (used us ks)
  pub positions : ps ≡ map (told_at_end more place (used us ks) js) us
  pub utf8 : All IsUtf8 (used us ks)
  pub faultless : key_fault us (used us ks) ≡ None

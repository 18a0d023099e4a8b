-- What stands once texts are laid, in a file that is packed one way or the other. T are distinct
-- texts of the measures ms, and cs say in which of them each lies.
--     AreLyingIn cs ms sums   the sums are what lies in each text
--     AreCounted hs cs ms sums    .. but for the texts hs, each of which counts itself alone
--     IsBlock way T hs cs ms us es    us are unit 0 and the records in their order, which close at
--                             es, where those of hs save nothing
--     HaveOffsets way A T ms us os    the texts of these measures stand in us, each where os says;
--                             A are all texts of the file, and those beside it
use Rattle.std.specs.Prelude.{◌≡◌, ℕ, ◌<◌, List, ◌∷◌, length, All, Contains, slice_index}
use Rattle.std.specs.Prelude.{slice_index_or}
use Rattle.std.specs.List.{flat_map}
use Rattle.std.specs.List.Sorted.{IsSorted}
use Rattle.resb_pool.specs.Pool.{record_units}
use Rattle.resb_pool.specs.Records.{IsRecords}
use Rattle.resb_pool.specs.Inner.Placing.{AreContainers, AreHidden, AreOffsets, AreEnds}
use Rattle.resb_pool.specs.Inner.Placing.{IsRecordOf, lying_in, record_texts, record_cmp}
use Rattle.resb_pool.specs.declared.measure.Measure.{Measure}
use Rattle.resb_pool.specs.declared.packing.Packing.{Packing}
use Rattle.resb_pool.specs.declared.records.Record.{Record}

-- what lies in each text, as a list
pub record AreLyingIn (cs : List ℕ) (ms : List Measure) (sums : List ℕ) : Type 0 where
  pub len : length sums ≡ length cs
  pub each : (q : ℕ) → q < length cs → slice_index sums q ≡ lying_in cs ms q

-- the same, but for the texts hs: what each of these takes itself stands in the place of it
pub record AreCounted (hs cs : List ℕ) (ms : List Measure) (sums : List ℕ) : Type 0 where
  pub len : length sums ≡ length cs
  pub each : (q : ℕ) → q < length cs → (Contains hs q → ⊥)
      → slice_index sums q ≡ lying_in cs ms q
  pub hidden : (q : ℕ) (d : Measure) → q < length cs → Contains hs q
      → slice_index sums q ≡ (slice_index_or ms q d).size

pub record IsBlock (way : Packing) (T : List (List ℕ)) (hs cs : List ℕ) (ms : List Measure)
    (us es : List ℕ) : Type 0 where
  pub sums : List ℕ
  pub lying : AreCounted hs cs ms sums
  pub rows : List Record
  pub records : IsRecords T (record_texts T rows)
  pub each : All (IsRecordOf T sums) rows
  pub ascend : IsSorted (record_cmp way T) rows
  pub units : us ≡ 0 ∷ flat_map record_units (record_texts T rows)
  pub len : length es ≡ length cs
  pub ends : AreEnds T rows rows es

pub record HaveOffsets (way : Packing) (A : List ℕ → Type 0) (T : List (List ℕ))
    (ms : List Measure) (us os : List ℕ) : Type 0 where
  pub containers : List ℕ
  pub hidden : List ℕ
  pub ends : List ℕ
  pub containers_are : AreContainers way T containers
  pub hidden_are : AreHidden way A T hidden
  pub block : IsBlock way T hidden containers ms us ends
  pub offsets_are : AreOffsets containers ms ends os

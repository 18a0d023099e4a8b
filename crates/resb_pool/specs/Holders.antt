-- In whose record each of some strings lies.
--     AreHolders way S R      each string of S lies in the record of the text of R in its place
use Rattle.std.specs.Prelude.{◌≡◌, ℕ, ◌<◌, List, [], length, slice_index_or}
use Rattle.resb_pool.specs.Container.{IsContainer}
use Rattle.resb_pool.specs.declared.packing.Packing.{Packing}

-- as many texts as there are strings, and each string that isn't empty lies, among all of them, in
-- the record of the text in its place
pub record AreHolders (way : Packing) (S R : List (List ℕ)) : Type 0 where
  pub len : length R ≡ length S
  pub each : (i : ℕ) → i < length S → 0 < length (slice_index_or S i [])
      → IsContainer way S (slice_index_or S i []) (slice_index_or R i [])

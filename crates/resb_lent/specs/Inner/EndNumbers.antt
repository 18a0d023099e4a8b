-- The last bytes of keys as numbers, by which most keys are told apart.
--     end_number bs           the number of the last eight bytes, the last one in the highest place
--     AreNumbers rs ns        ns are those of the keys rs of a pool
use Rattle.std.specs.Prelude.{◌≡◌, ℕ, ◌<◌, List, length, reverse, slice_index, slice_index_or}
use Rattle.resb_pool.specs.Inner.Suffixes.{key_of_digits}
use Rattle.resb_lent.specs.declared.ends.LentRun.{LentRun}

-- 255 stands for each byte that isn't there
abbrev pub end_number : List ℕ → ℕ
end_number bs = key_of_digits 0 8 (reverse bs)

abbrev pub AreBytes : List ℕ → Type 0
AreBytes bs = (k : ℕ) → slice_index bs k < 256

pub record AreNumbers (rs : List LentRun) (ns : List ℕ) : Type 0 where
  pub len : length ns ≡ length rs
  pub each : (k : ℕ) (d : LentRun) → k < length rs
      → (slice_index ns k ≡ end_number (slice_index_or rs k d).bytes.now)
      × AreBytes (slice_index_or rs k d).bytes.now

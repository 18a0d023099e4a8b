-- Where keys stand in a file over a pool, while they are placed; what is refused where strings
-- aren't planned beside it; and the file's head.
--     told_beside place own   the position of a key that stands there in the pool, or else there
--                             among the file's own, as if these began at byte 32
--     IsKeyBlockBeside q keys us ks js ps  of used keys us and a list ks, over a pool of these
--                             keys: those that stand in the file, and where the used ones stand
--     IsUnplanned q block S f     the fault f may be answered where the strings S have no plan
--     head_with c l n         the head of a file of these parts, to which so much is lent by a
--                             pool of the checksum n
use Rattle.std.specs.Prelude.{◌≡◌, ℕ, ◌+◌, ◌-◌, ◌/◌, ◌<◌, ◌≤◌, ◌^◌, min, List, length, map, filter}
use Rattle.std.specs.Prelude.{Option, Some, None, All, unwrap_or}
use Rattle.std.specs.Option.{is_none}
use Rattle.std.specs.Str.{IsUtf8}
use Rattle.resb_pool.specs.declared.error.PlanError.{PlanError}
use Rattle.resb_layout.specs.KeyBlock.{used, key_bytes}
use Rattle.resb_layout.specs.TreeFaults.{key_fault}
use Rattle.resb_layout.specs.WritingFault.{WritingFault}
use Rattle.resb_layout.specs.CompactKeys.{keys_by}
use Rattle.resb_pool.specs.declared.packing.Packing.{Packing}
use Rattle.resb_lent.specs.PlanWithPool.{NotPlannedWithBy}
use Rattle.resb_lent.specs.declared.head_with_pool.HeadWithPool.{HeadWithPool}
use Rattle.resb_write.specs.FaultOf.{plan_fault}
use Rattle.resb_write.specs.WrittenWith.{LendsKeyBy, position_beside}
use Rattle.resb_write.specs.Inner.Files.{keys_in_file, units_in_file}
use Rattle.resb_write.specs.declared.file.FileParts.{FileParts}
use Rattle.resb_write.specs.declared.lends.Lends.{Lends}

abbrev pub told_beside : Option ℕ → Option ℕ → ℕ
told_beside (Some n) own = n + 2 ^ 31
told_beside None own = min (unwrap_or own 0 + 4) (2 ^ 32 - 1)

pub record IsKeyBlockBeside (q : Packing) (keys : List ℕ) (us ks js : List (List ℕ)) (ps : List ℕ)
    : Type 0 where
  pub place : List ℕ → Option ℕ
  pub places : (k : List ℕ) → LendsKeyBy q keys (used us ks) k (place k)
  pub own : js ≡ filter (λ k. is_none (place k)) (keys_by q (used us ks))
  pub positions : length (key_bytes js) < 2 ^ 28
      → map (position_beside q place (used us ks) js) us ≡ map Some ps
  pub utf8 : All IsUtf8 (used us ks)
  pub faultless : key_fault us (used us ks) ≡ None

pub record IsUnplanned (q : Packing) (block : List ℕ) (S : List (List ℕ)) (f : WritingFault)
    : Type 0 where
  pub error : PlanError
  pub refused : NotPlannedWithBy q block S error
  pub answered : f ≡ plan_fault error

abbrev pub head_with : FileParts → Lends → ℕ → HeadWithPool
head_with c l n = record {
  root = c.root;
  largest_table = c.largest_table;
  is_locale_fallback_enabled = c.is_locale_fallback_enabled;
  limit = l.limit;
  short_limit = l.short_limit;
  checksum = n;
  key_words = length (keys_in_file c) / 4;
  block_words = length (units_in_file c) / 2;
  tail_words = length c.bodies.now.tail.items / 4;
}

-- the limits fit their bits
pub record FitsLimits (l : Lends) : Type 0 where
  pub limit : l.limit < 2 ^ 28
  pub short : l.short_limit ≤ 65535
  pub none : l.limit ≡ 0 → l.short_limit ≡ 0

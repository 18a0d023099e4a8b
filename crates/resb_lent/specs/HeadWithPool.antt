-- The head of a file that uses a pool bundle. (ICU's `uresdata.h`: `URES_ATT_USES_POOL_BUNDLE`,
-- and the limits of string indexes in versions from 3.0 on; header: `ucmndata.h` and `udata.h`.)
--     head_words h            the root's word and the index
--     head_bytes h            the header, and these words
--     IsHead h                the numbers fit their bits
--     parts_behind h pool keys us tail    the parts of a file that has these blocks behind it
use Rattle.std.specs.Prelude.{◌≡◌, ℕ, ◌+◌, ◌*◌, ◌/◌, ◌%◌, ◌^◌, ◌<◌, ◌≤◌, List, [], ◌∷◌, ◌++◌}
use Rattle.std.specs.Prelude.{Some, nat_eq, if◌then◌else◌}
use Rattle.resb_format.specs.Bytes.{units_as_bytes}
use Rattle.resb_format.specs.Parts.{Parts}
use Rattle.resb_layout.specs.Laid.{words}
use Rattle.resb_layout.specs.WrittenHead.{header_of}
use Rattle.resb_pool_bundle.specs.Pool.{Pool}
use Rattle.resb_lent.specs.declared.head_with_pool.HeadWithPool.{HeadWithPool}

-- the format version's first number: 2 where the pool lends no string, and else 3
abbrev pub version_with : ℕ → ℕ
version_with limit = if nat_eq limit 0 then 2 else 3

-- the attributes: a pool is used, and whether there is no fallback; above them the upper 4 bits of
-- the limit, and the short limit
abbrev pub attributes_with : HeadWithPool → ℕ
attributes_with h =
    (if h.is_locale_fallback_enabled then 4 else 5) + 2 ^ 12 * (h.limit / 2 ^ 24)
    + 2 ^ 16 * h.short_limit

-- the root's word, and the index: 8 fields, and above their number the lower 24 bits of the limit;
-- the end of the keys, that of the resources and of the bundle, the largest table, the attributes,
-- the end of the 16-bit block, and the pool's checksum. Ends are in words of the body, of which 9
-- stand before the keys
abbrev pub head_words : HeadWithPool → List ℕ
head_words h =
    let keys_end = 9 + h.key_words in
    let block_end = keys_end + h.block_words in
    let end = block_end + h.tail_words in
    h.root ∷ (8 + 2 ^ 8 * (h.limit % 2 ^ 24)) ∷ keys_end ∷ end ∷ end ∷ h.largest_table
    ∷ attributes_with h ∷ block_end ∷ h.checksum ∷ []

-- the header, and the words
abbrev pub head_bytes : HeadWithPool → List ℕ
head_bytes h = header_of (version_with h.limit) ++ words (head_words h)

-- each number fits its bits, and there is no short limit without a limit
pub record IsHead (h : HeadWithPool) : Type 0 where
  pub root : h.root < 2 ^ 32
  pub largest : h.largest_table < 2 ^ 32
  pub checksum : h.checksum < 2 ^ 32
  pub limit : h.limit < 2 ^ 28
  pub short : h.short_limit ≤ 65535
  pub none : h.limit ≡ 0 → h.short_limit ≡ 0
  pub end : 9 + h.key_words + h.block_words + h.tail_words < 2 ^ 32

-- the body that stands behind the header
abbrev pub body_behind : HeadWithPool → List ℕ → List ℕ → List ℕ → List ℕ
body_behind h keys us tail = words (head_words h) ++ (keys ++ (units_as_bytes us ++ tail))

-- the parts of such a file beside the pool: its own keys end behind the key block, or there are
-- none where that is empty
abbrev pub parts_behind : HeadWithPool → Pool → List ℕ → List ℕ → List ℕ → Parts
parts_behind h pool keys us tail = record {
  body = body_behind h keys us tail;
  keys =
      if nat_eq h.key_words 0 then [] else words (head_words h) ++ keys;
  block = us;
  lent = Some (record {
    keys = pool.keys;
    block = pool.block;
    limit = h.limit;
    short_limit = h.short_limit;
  });
}

-- What a file of any version is and denotes, beside the pool bundle that is given, if one is.
--     IsFileHead bytes        the head is that of a file of one of the versions 1.1 to 3.0
--     IsPoolFile bytes        the file is a pool bundle
--     IsFileWith pool bytes   the file can be read beside the pool
--     DenotesWith pool bytes t n      its root denotes the tree t, of n resources
use Rattle.std.specs.Prelude.{◌≡◌, ◌≢◌, ◌⊎◌, ℕ, ◌+◌, ◌*◌, ◌<◌, ◌≤◌, min, List, [], ◌∷◌, length}
use Rattle.std.specs.Prelude.{true, false, Option, Some, None, is_some, Result, MatchResult}
use Rattle.std.specs.Prelude.{slice_index, slice_range, codes}
use Rattle.resb_tree.specs.Tree.{Tree}
use Rattle.resb_format.specs.Bytes.{header_size}
use Rattle.resb_format.specs.Denotes.{Den}
use Rattle.resb_format.specs.Error.{ReadsUnless, refusal_of}
use Rattle.resb_format.specs.Parts.{parts_in}
use Rattle.resb_format.specs.declared.error.ReadingError.{ReadingError}
use Rattle.resb_head.specs.Codes.{version_bytes}
use Rattle.resb_head.specs.File.{body_of, keys_end, root_word}
use Rattle.resb_head.specs.declared.checked_file.CheckedFile.{CheckedFile}
use Rattle.resb_head.specs.declared.version.FormatVersion.{FormatVersion}
use Rattle.resb_head.specs.declared.version.FormatVersion.TheVariants.{V1_0}
use Rattle.resb_pool_bundle.specs.Checks.{pool_refusal, refusal_with}
use Rattle.resb_pool_bundle.specs.Fields.{major, index_length, is_pool, uses_pool, checksum_in}
use Rattle.resb_pool_bundle.specs.Fields.{block_end_in, limit_in, short_limit_in}
use Rattle.resb_pool_bundle.specs.Pool.{Pool, pool_of, pool_in, block_in, block_bytes, parts_with}
use Rattle.resb_pool_bundle.specs.declared.pool_bundle.PoolBundle.{PoolBundle}

-- the bytes spell a version of the format, and not 1.0: 1.1, 1.2, 1.3, 2.0 or 3.0
abbrev pub IsReadVersion : List ℕ → Type 0
IsReadVersion bytes = (v : FormatVersion) × (version_bytes v ≡ bytes) × (v ≢ V1_0)

-- the file's head says each of these things: what it is, where its parts lie, which is inside the
-- file, one behind the other, the checksum of the pool that it is or uses, and that its strings are
-- its own where it uses none
pub record IsFileHead (bytes : List ℕ) : Type 0 where
  pub magic : slice_range bytes 2 4 ≡ 0xda ∷ 0x27 ∷ []
  pub little_endian : slice_index bytes 8 ≡ 0
  pub ascii : slice_index bytes 9 ≡ 0
  pub two_byte_chars : slice_index bytes 10 ≡ 2
  pub format : slice_range bytes 12 16 ≡ codes "ResB"
  pub version : IsReadVersion (slice_range bytes 16 20)
  pub header : 24 ≤ header_size bytes
  pub header_inside : header_size bytes ≤ length bytes
  pub fields : 5 ≤ index_length bytes
  pub index_inside : 4 * (1 + min (index_length bytes) 8) ≤ length (body_of bytes)
  pub keys_inside : 4 * keys_end bytes ≤ length (body_of bytes)
  pub block_told : (major bytes < 2) ⊎ (7 ≤ index_length bytes)
  pub blocks_ordered : keys_end bytes ≤ block_end_in bytes
  pub block_inside : 4 * block_end_in bytes ≤ length (body_of bytes)
  pub checksum_told : (is_pool bytes ≡ true) ⊎ (uses_pool bytes ≡ true)
      → is_some (checksum_in bytes) ≡ true
  pub own_strings : uses_pool bytes ≡ false
      → (limit_in bytes ≡ 0) × (short_limit_in bytes ≡ 0)

-- the bytes are a pool bundle: a file that says so, and whose keys end behind its index
pub record IsPoolFile (bytes : List ℕ) : Type 0 where
  pub head : IsFileHead bytes
  pub pool : is_pool bytes ≡ true
  pub keys_behind : 1 + index_length bytes ≤ keys_end bytes

-- the bytes are a file beside the pool: where it uses one, that pool is given, of the checksum that
-- it says
pub record IsFileWith (pool : Option Pool) (bytes : List ℕ) : Type 0 where
  pub head : IsFileHead bytes
  pub given : uses_pool bytes ≡ true
      → (p : Pool) × (pool ≡ Some p) × (checksum_in bytes ≡ Some p.checksum)

-- the bytes are a file beside the pool, and its root's word denotes the tree, of n resources;
-- aliases and strings of the older form are read
pub record DenotesWith (pool : Option Pool) (bytes : List ℕ) (t : Tree) (n : ℕ) : Type 0 where
  pub head : IsFileWith pool bytes
  pub root : Den (parts_with pool bytes) (root_word bytes) t n

-- what reading a pool bundle answers: what it lends, with the bytes of the file's 16-bit block, or
-- the first check that fails
abbrev pub ReadsPool : List ℕ → Result PoolBundle ReadingError → Type 0
ReadsPool bytes =
    ReadsUnless (pool_refusal bytes)
    (λ p. (pool_in p ≡ pool_of bytes) × (block_in p ≡ block_bytes bytes))

-- the file's parts and its root's word where no check fails, else the refusal of the first that
-- does
abbrev pub ReadsFileWith : Option Pool → List ℕ → Result CheckedFile ReadingError → Type 0
ReadsFileWith pool bytes r =
    MatchResult r
    (λ f. IsFileWith pool bytes × (parts_in f.file ≡ parts_with pool bytes)
    × (f.root ≡ root_word bytes))
    (λ e. refusal_with pool bytes ≡ Some (refusal_of e))

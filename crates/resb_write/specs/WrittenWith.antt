-- What a file is that is written over a pool bundle. (ICU's `uresdata.h`: pool bundles.)
--     LendsKeyBy q keys js k o    where the pool has a key of a file that is packed like this
--     own_keys_of q place t ks    the keys that stand in the file
--     position_beside q place js own k    the position of a key
--     BlocksWithBy q pool t ks    what a file of the tree t and the keys ks is made of
--     WrittenWithBy q pool bytes t f ks   the file of a bundle of t that is packed like this, with
--                             locale fallback or not
--     WrittenWith pool bytes t f ks, WrittenCompactWith pool bytes t f ks     the plain file, and
--                             the compact one
--     RefusesWritingWith pool t ks e  e may be the answer
use Rattle.std.specs.Prelude.{◌≡◌, ℕ, ◌+◌, ◌-◌, ◌*◌, ◌/◌, ◌^◌, ◌≤◌, List, [], ◌++◌, length, map}
use Rattle.std.specs.Prelude.{filter, Bool, Option, Some, None, option_map, codes}
use Rattle.std.specs.Prelude.{if◌then◌else◌}
use Rattle.std.specs.List.{Contains}
use Rattle.std.specs.Option.{is_none, option_or}
use Rattle.resb_tree.specs.Tree.{Tree, tree_count, largest_table}
use Rattle.resb_tree.specs.LayingOrder.{keys_of, texts_of}
use Rattle.resb_head.specs.File.{budget}
use Rattle.resb_format.specs.Bytes.{units_as_bytes}
use Rattle.resb_pool_bundle.specs.Pool.{Pool}
use Rattle.resb_pool_bundle.specs.FileWith.{DenotesWith}
use Rattle.resb_lent.specs.LentKeys.{LendsKey}
use Rattle.resb_lent.specs.LentEnds.{LiesInPool}
use Rattle.resb_lent.specs.PlanWithPool.{IsPlanWithBy}
use Rattle.resb_lent.specs.HeadWithPool.{head_bytes}
use Rattle.resb_lent.specs.declared.head_with_pool.HeadWithPool.{HeadWithPool}
use Rattle.resb_layout.specs.KeyBlock.{is_among, used, key_bytes, padded, last_place}
use Rattle.resb_layout.specs.CompactKeys.{container, keys_by}
use Rattle.resb_layout.specs.Laid.{Laid, LaysBy}
use Rattle.resb_layout.specs.TreeFaults.{tree_fault, RefusesWriting}
use Rattle.resb_layout.specs.Written.{even}
use Rattle.resb_layout.specs.WritingFault.{WritingFault, limit as limit_fault}
use Rattle.resb_layout.specs.PlainSize.{plain_size}
use Rattle.resb_pool.specs.declared.packing.Packing.{Packing}
use Rattle.resb_pool.specs.declared.packing.Packing.TheVariants.{Plain, Compact}

-- where the pool has a key, if it does, for a file with these used keys: whole, or in a compact
-- file at the end of a key
abbrev pub LendsKeyBy : Packing → List ℕ → List (List ℕ) → List ℕ → Option ℕ → Type 0
LendsKeyBy Plain keys js k o = LendsKey keys k o
LendsKeyBy Compact keys js k o = LiesInPool keys js k o

-- the listed keys that the tree uses and that would stand in a file without a pool, but for those
-- that have a place in the pool
abbrev pub own_keys_of : Packing → (List ℕ → Option ℕ) → Tree → List (List ℕ) → List (List ℕ)
own_keys_of q place t ks = filter (λ k. is_none (place k)) (keys_by q (used (keys_of t) ks))

-- the file's own keys, each with a zero byte, filled to a word
abbrev pub key_block_beside : Packing → (List ℕ → Option ℕ) → Tree → List (List ℕ) → List ℕ
key_block_beside q place t ks = padded (key_bytes (own_keys_of q place t ks))

-- 2^31 and the place in the pool, or the place among the file's own keys, which begin behind the
-- root's word and 8 words of the index
abbrev pub position_of : Option ℕ → Option ℕ → Option ℕ
position_of there own =
    option_or (option_map (λ n. n + 2 ^ 31) there) (option_map (λ n. 36 + n) own)

-- the position of a key: where it stands last among the file's own keys, or, in a compact file, of
-- the used keys js, where its container stands, and so many bytes more that it ends where that ends
abbrev pub position_beside : Packing → (List ℕ → Option ℕ) → List (List ℕ) → List (List ℕ) → List ℕ
    → Option ℕ
position_beside Plain place js own k = position_of (place k) (last_place k own)
position_beside Compact place js own k =
    if is_among js k then position_of (place k)
    (option_map (λ n. n + (length (container js k) - length k)) (last_place (container js k) own))
    else None

-- where the file's own keys end, in bytes of the body: at 0 where it has none
abbrev pub own_end_of : List (List ℕ) → ℕ
own_end_of [] = 0
own_end_of js = 36 + length (padded (key_bytes js))

-- where the tail begins, behind the key block and the 16-bit block
abbrev pub tail_start_beside : List ℕ → Laid → ℕ
tail_start_beside keys laid = 36 + length keys + 2 * length (even laid.units)

-- what a file over a pool is made of that is packed like this: where the pool has keys, the plan of
-- the tree's strings, and its resources laid behind it
pub record BlocksWithBy (q : Packing) (pool : Pool) (t : Tree) (ks : List (List ℕ)) : Type 0 where
  pub place : List ℕ → Option ℕ
  pub places : (k : List ℕ) → LendsKeyBy q pool.keys (used (keys_of t) ks) k (place k)
  pub units : List ℕ
  pub indexes : List ℕ
  pub limit : ℕ
  pub short : ℕ
  pub plan : IsPlanWithBy q pool.block (texts_of t) units indexes limit short
  -- where each string stands, and no other text
  pub offset : List ℕ → Option ℕ
  pub offsets : map offset (texts_of t) ≡ map Some indexes
  pub others : (s : List ℕ) → (Contains (texts_of t) s → ⊥) → offset s ≡ None
  pub laid : Laid
  pub root : ℕ
  pub lays : LaysBy
      (Some (record {
        own_end = own_end_of (own_keys_of q place t ks);
        limit = limit;
        short_limit = short;
      }))
      (record {
        position = position_beside q place (used (keys_of t) ks) (own_keys_of q place t ks);
        offset = offset;
        base = tail_start_beside (key_block_beside q place t ks) laid;
        packing = q;
      })
      (record { units = units; tail = [] }) t laid root

-- the head of a file of these blocks
abbrev pub head_of : {q : Packing} {pool : Pool} {t : Tree} {ks : List (List ℕ)} → Bool
    → BlocksWithBy q pool t ks → HeadWithPool
head_of {q} {pool} {t} {ks} fallback b = record {
  root = b.root;
  largest_table = largest_table t;
  is_locale_fallback_enabled = fallback;
  limit = b.limit;
  short_limit = b.short;
  checksum = pool.checksum;
  key_words = length (key_block_beside q b.place t ks) / 4;
  block_words = length (even b.laid.units) / 2;
  tail_words = length b.laid.tail / 4;
}

-- a file that denotes the tree beside the pool, whose bytes are just the head and the blocks,
-- packed like this
pub record WrittenWithBy (q : Packing) (pool : Pool) (bytes : List ℕ) (t : Tree) (fallback : Bool)
    (ks : List (List ℕ)) : Type 0 where
  pub faultless : tree_fault t ks ≡ None
  pub tree : DenotesWith (Some pool) bytes t (tree_count t)
  pub within_budget : tree_count t ≤ budget bytes
  pub blocks : BlocksWithBy q pool t ks
  pub file : bytes ≡ head_bytes (head_of fallback blocks) ++ (key_block_beside q blocks.place t ks
      ++ (units_as_bytes (even blocks.laid.units) ++ blocks.laid.tail))

-- the bytes are the plain file over the pool, in which each key stands by itself
abbrev pub WrittenWith : Pool → List ℕ → Tree → Bool → List (List ℕ) → Type 0
WrittenWith = WrittenWithBy Plain

-- the bytes are the compact file over the pool
abbrev pub WrittenCompactWith : Pool → List ℕ → Tree → Bool → List (List ℕ) → Type 0
WrittenCompactWith = WrittenWithBy Compact

-- what is refused without the pool, or a plain size that comes with the pool's units to 2^28 and
-- more, where there is no fault
pub data RefusesWritingWith (pool : Pool) (t : Tree) (ks : List (List ℕ)) : WritingFault
    → Type 0 where
  as_alone : {f : WritingFault} → RefusesWriting t ks f → RefusesWritingWith pool t ks f
  too_far : tree_fault t ks ≡ None → 2 ^ 28 ≤ plain_size t ks + length pool.block
      → RefusesWritingWith pool t ks (limit_fault (codes "file too large"))

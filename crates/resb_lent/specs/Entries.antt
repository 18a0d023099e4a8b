-- The records of a pool as they are held.
--     IsLentEntry block e         e is a record of the block, and says where it ends
--     pairs es                    the records' texts, each with its place
--     entry_cmp x y               in which order two records are held
use Rattle.std.specs.Prelude.{◌≡◌, ℕ, ◌+◌, List, map}
use Rattle.std.specs.Ordering.{nat_cmp, ordering_then}
use Rattle.std.specs.String.{string_bytes}
use Rattle.std.specs.declared.cmp.Ordering.{Ordering}
use Rattle.resb_format.specs.Units.{size}
use Rattle.resb_pool.specs.Order.{suffix_cmp}
use Rattle.resb_pool.specs.declared.packing.Packing.TheVariants.{Plain}
use Rattle.resb_lent.specs.LentTexts.{IsLentRecord}
use Rattle.resb_lent.specs.declared.lent_record.LentRecord.{LentRecord}

-- a record's text and its place
abbrev pub pair_of : LentRecord → List ℕ × ℕ
pair_of e = (string_bytes e.text, e.at)

-- those of records, in their order
abbrev pub pairs : List LentRecord → List (List ℕ × ℕ)
pairs es = map pair_of es

-- a record of the pool, and where it ends
pub record IsLentEntry (block : List ℕ) (e : LentRecord) : Type 0 where
  pub own : IsLentRecord block (string_bytes e.text) e.at
  pub end : e.end ≡ e.at + size (string_bytes e.text)

-- by the texts in a plain file's order from the end, and of one text the later record first
abbrev pub entry_cmp : LentRecord → LentRecord → Ordering
entry_cmp x y =
    ordering_then (suffix_cmp Plain (string_bytes x.text) (string_bytes y.text))
    (nat_cmp y.at x.at)

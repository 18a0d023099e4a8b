-- What the sorted records lend.
use Rattle.std.proofs.Common.{ℕ, List, [], ◌∷◌, ◌≡◌, length, Some, true, arith, map}
use Rattle.std.proofs.lemmas.Bool.Decides.{nat_tests}
use Rattle.std.specs.Prelude.{◌==◌, slice_get}
use Rattle.std.specs.List.{All}
use Rattle.std.specs.List.Sorted.{IsPermutation, IsSortedBy}
use Rattle.std.specs.Ordering.{is_lt}
use Rattle.std.specs.Str.{IsUtf8}
use Rattle.std.proofs.lemmas.List.Elements.{All-map}
use Rattle.std.proofs.lemmas.List.Sorted.{IsPermutation-map, All-permutation, Contains-permutation}
use Rattle.resb_lent.specs.LentTexts.{LentText, lent_empty}
use Rattle.resb_lent.specs.Lending.{LendsTexts}
use Rattle.resb_lent.specs.Inner.Listed.{ListsRecords}
use Rattle.resb_lent.specs.Inner.Tops.{AreTops}
use Rattle.resb_lent.specs.Inner.Within.{record_bytes}
use Rattle.resb_lent.specs.Entries.{IsLentEntry, pairs, pair_of}
use Rattle.resb_lent.specs.Entries.{entry_cmp}
use Rattle.resb_lent.specs.declared.lent_record.LentRecord.{LentRecord}
use Rattle.resb_lent.specs.declared.texts.LentTexts.{LentTexts}

pub lends_sorted : (l : LentTexts) (block : List ℕ) (old : List LentRecord)
    → l.lends ≡ true → slice_get block 0 ≡ Some 0 → ListsRecords block old
    → IsPermutation old l.records.items
    → IsSortedBy (λ x y. is_lt (entry_cmp x y)) l.records.items
    → AreTops l.records.items l.tops.items → LendsTexts l block
lends_sorted l block old lends zero lists moved sorted tops = record {
  begins = rw lends zero;
  sound = All-permutation (IsLentEntry block) old l.records.items moved entries;
  complete = λ r at x. Contains-permutation (pairs old) (pairs l.records.items) (r, at)
      (IsPermutation-map pair_of old l.records.items moved)
      (lists.complete r at x.reached x.stands);
  sorted = sorted;
  tops = tops;
}
  where
    entries : All (IsLentEntry block) old
    entries i d m =
        let e = lists.sound i d m in
        record {
          own = record { begins = zero; reached = e.reached; stands = e.own.stands };
          end = e.own.end;
        }

-- the empty text has index 0 in a pool that lends
pub empty_index : (l : LentTexts) (block s : List ℕ) → LendsTexts l block → l.lends ≡ true
    → (length s == 0) ≡ true → LentText block s 0
empty_index l block [] h lends e = lent_empty (rw lends at h.begins)
empty_index l block (x ∷ xs) h lends e = absurd (full x xs e)
  where
    full : (x : ℕ) (xs : List ℕ) → (length (x ∷ xs) == 0) ≡ true → ⊥
    full x xs e = grind (arith, nat_tests)

-- texts of records, moved, are texts
pub utf8_moved : (block : List ℕ) (old new : List LentRecord) → ListsRecords block old
    → IsPermutation old new → All IsUtf8 (map record_bytes new)
utf8_moved block old new lists moved = All-map IsUtf8 record_bytes new
    (All-permutation (λ e. IsUtf8 (record_bytes e)) old new moved
    (λ i d m. (lists.sound i d m).own.stands.utf8))

pub texts_utf8 : (l : LentTexts) (block : List ℕ) → LendsTexts l block
    → All IsUtf8 (map record_bytes l.records.items)
texts_utf8 l block h = All-map IsUtf8 record_bytes l.records.items
    (λ i d m. (h.sound i d m).own.stands.utf8)

-- a pool that lends no text has no top
pub no_tops : AreTops [] []
no_tops = record {
  sound = λ i l. absurd (omega (arith, l));
  complete = λ r x. absurd (omega (arith, x.given.1));
  ascend = λ i j l m. absurd (omega (arith, m));
}

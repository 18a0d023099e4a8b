-- From records that are moved and laid to their block.
use Rattle.std.proofs.Common.{◌≡◌, ℕ, ◌∷◌, List, Result, Ok, Err, IfOk, length, ◌∙◌, sym}
use Rattle.std.proofs.Common.{subst}
use Rattle.std.specs.declared.alloc.AllocError.{AllocError}
use Rattle.std.specs.List.{All, flat_map}
use Rattle.std.specs.List.Sorted.{IsPermutation, IsSorted}
use Rattle.std.proofs.lemmas.List.Sorted.{IsPermutation-map, All-permutation}
use Rattle.resb_pool.specs.Pool.{record_units}
use Rattle.resb_pool.specs.Records.{IsRecords}
use Rattle.resb_pool.specs.Inner.Placing.{IsRecordOf, AreEnds}
use Rattle.resb_pool.specs.Inner.Placing.{record_text, record_texts, record_cmp}
use Rattle.resb_pool.specs.Inner.LaidRecords.{AreCounted, IsBlock}
use Rattle.resb_pool.specs.declared.measure.Measure.{Measure}
use Rattle.resb_pool.specs.declared.packing.Packing.{Packing}
use Rattle.resb_pool.specs.declared.records.Record.{Record}
use Rattle.resb_pool.specs.declared.records.Block.{Block}
use Rattle.resb_pool.proofs.InOrder.{records_permutation}

-- records that are moved, and then laid, are the same ones
module _ (T : List (List ℕ)) (found moved laid : List Record) (p : IsPermutation found moved)
    (same : laid ≡ moved) where
  pub records_laid : IsRecords T (record_texts T found) → IsRecords T (record_texts T laid)
  records_laid h = subst (λ (z : List Record). IsRecords T (record_texts T z)) (sym same)
      (records_permutation T (record_texts T found) (record_texts T moved)
      (IsPermutation-map (record_text T) found moved p) h)

  pub each_laid : (sums given : List ℕ) → given ≡ sums → All (IsRecordOf T given) found
      → All (IsRecordOf T sums) laid
  each_laid sums given e h =
      subst (λ (z : List Record). All (IsRecordOf T sums) z) (sym same)
      (All-permutation (IsRecordOf T sums) found moved p
      (subst (λ (z : List ℕ). All (IsRecordOf T z) found) e h))

module _ (way : Packing) (T : List (List ℕ)) (hs : List ℕ) (ms : List Measure)
    (hidden sums : List ℕ) (lying : AreCounted hidden hs ms sums)
    (v : List Record) (records : IsRecords T (record_texts T v))
    (each : All (IsRecordOf T sums) v) (ascend : IsSorted (record_cmp way T) v) where
  pub block_of : (n : ℕ) → n ≡ length hs → (r : Result Block AllocError)
      → IfOk r (λ b. b.units.items ≡ 0 ∷ flat_map record_units (record_texts T v))
      → IfOk r (λ b. length b.ends.items ≡ n) → IfOk r (λ b. AreEnds T v v b.ends.items)
      → IfOk r (λ b. IsBlock way T hidden hs ms b.units.items b.ends.items)
  block_of n m (Ok b) u k e = record {
    sums = sums;
    lying = lying;
    rows = v;
    records = records;
    each = each;
    ascend = ascend;
    units = u;
    len = k ∙ m;
    ends = e;
  }
  block_of n m (Err x) u k e = tt

-- The order of texts from the start, in a file that is packed one way or the other.
use Rattle.std.proofs.Common.{◌≡◌, ℕ, ◌+◌, List, [], get_or, false, refl, sym, ◌∙◌}
use Rattle.std.proofs.Common.{ap, arith}
use Rattle.std.specs.List.{All}
use Rattle.std.specs.List.Sorted.{IsSorted}
use Rattle.std.specs.Cmp.{IsTotalOrder, IsStrictWeakOrder}
use Rattle.std.specs.Cmp.Lexicographic.{slice_cmp, nat_list_cmp_total}
use Rattle.std.specs.Str.{chars, IsUtf8}
use Rattle.std.specs.Ordering.{nat_cmp, ordering_then, is_lt}
use Rattle.std.specs.declared.cmp.Ordering.TheVariants.{Less}
use Rattle.std.proofs.lemmas.Cmp.{nat_cmp_total, then_total, on_total, back_total}
use Rattle.std.proofs.lemmas.List.MinMax.{ranks_by}
use Rattle.resb_format.specs.Units.{units}
use Rattle.resb_pool.specs.Order.{letters, start_cmp}
use Rattle.resb_pool.specs.Inner.Placing.{record_cmp, record_text, IsRecordOf}
use Rattle.resb_pool.specs.Inner.Ranks.{HaveCharLetters}
use Rattle.resb_pool.specs.declared.packing.Packing.{Packing}
use Rattle.resb_pool.specs.declared.packing.Packing.TheVariants.{Plain, Compact}
use Rattle.resb_pool.specs.declared.records.Record.{Record}
use Rattle.resb_pool.proofs.EndLetters.{units_same}
use Rattle.resb_pool.proofs.Lists.{bytes_asym, text_order}
use Rattle.resb_pool.proofs.Utf8Order as utf8

pub start_total : (way : Packing) → IsTotalOrder (start_cmp way)
start_total Plain = nat_list_cmp_total
start_total Compact = on_total units nat_list_cmp_total

-- of two texts, each is not before the other
pub start_asym : (way : Packing) (r q : List ℕ) → start_cmp way r q ≡ Less
    → start_cmp way q r ≡ Less → ⊥
start_asym Plain r q e f = bytes_asym r q e f
start_asym Compact r q e f = bytes_asym (units r) (units q) e f

-- a text that is not after another one is before it, or the same
pub start_order : (way : Packing) (s t : List ℕ) → IsUtf8 s → IsUtf8 t
    → is_lt (start_cmp way t s) ≡ false → (s ≡ t → ⊥) → start_cmp way s t ≡ Less
start_order Plain s t u v h ne = text_order s t h ne
start_order Compact s t u v h ne =
    text_order (units s) (units t) h (λ e. ne (units_same s t u v e))

-- where units are characters, texts compare as in a plain file
near_start : (way : Packing) (s t : List ℕ) → IsUtf8 s → IsUtf8 t → letters way s ≡ chars s
    → letters way t ≡ chars t → start_cmp way s t ≡ start_cmp Plain s t
near_start Plain s t u v e f = refl
near_start Compact s t u v e f = ap (λ z. slice_cmp nat_cmp z (units t)) e
    ∙ ap (slice_cmp nat_cmp (chars s)) f ∙ sym (utf8.text_order s t u v)

module _ (way : Packing) (T : List (List ℕ)) where
  record_total : IsTotalOrder (record_cmp way T)
  record_total = then_total (on_total (λ (r : Record). r.unit_count) nat_cmp_total)
      (then_total (back_total (on_total (λ (r : Record). r.saved) nat_cmp_total))
      (on_total (record_text T) (start_total way)))

  pub record_order : IsStrictWeakOrder (λ (x y : Record). is_lt (record_cmp way T x y))
  record_order = ranks_by record_total (λ (r : Record). r)

  -- and so do records
  pub near_records : All IsUtf8 T → HaveCharLetters way T → (sums : List ℕ) (rs : List Record)
      → All (IsRecordOf T sums) rs → IsSorted (record_cmp Plain T) rs
      → IsSorted (record_cmp way T) rs
  near_records u near sums rs each up k d l m =
      let x = get_or rs (k + 1) d in
      let y = get_or rs k d in
      let i = (each (k + 1) d m).within in
      let j = (each k d (omega (arith, m))).within in
      ap (λ o. is_lt (ordering_then (nat_cmp x.unit_count y.unit_count)
      (ordering_then (nat_cmp y.saved x.saved) o)))
      (near_start way (record_text T x) (record_text T y) (u x.index [] i) (u y.index [] j)
      (near x.index [] i) (near y.index [] j)) ∙ up k d l m

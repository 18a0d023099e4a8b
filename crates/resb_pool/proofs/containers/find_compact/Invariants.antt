use Rattle.std.proofs.Common.{◌≡◌, ◌+◌, ◌<◌, ℕ, [], length, get_or, Contains}
use Rattle.resb_pool.specs.Plan.{nows}
use Rattle.resb_pool.specs.Inner.Placing.{LiesAt, IsToldHidden, indexed_text}
use Rattle.resb_pool.specs.Inner.Suffixes.{IsKeyed, row_text}
use Rattle.resb_pool.specs.Inner.Tops.{IsTopOf}
use Rattle.resb_pool.specs.declared.packing.Packing.TheVariants.{Compact}
use Rattle.resb_pool.specs.declared.suffix_order.Row.{Row}
use Rattle.resb_pool.proofs.containers.find_compact.Given as goal

abbrev pub invariant-loop-row : goal.invariant-loop-row
invariant-loop-row l = record {
  len : length l.of.items ≡ length l.texts;
  keyed : IsKeyed (nows l.texts) l.previous;
  first : l.row-index ≡ 0 → row_text (nows l.texts) l.previous ≡ [];
  last : (k : ℕ) (d : Row) → l.row-index ≡ k + 1
      → (row_text (nows l.texts) l.previous ≡ row_text (nows l.texts) (get_or l.row-items k d))
      × (0 < length (row_text (nows l.texts) (get_or l.row-items k d))
      → (l.top < length (nows l.texts))
      × IsTopOf (nows l.texts) (row_text (nows l.texts) (get_or l.row-items k d))
      (indexed_text (nows l.texts) l.top));
  lies : (j : ℕ) (d : Row) → j < l.row-index
      → LiesAt Compact (nows l.texts) (get_or l.row-items j d).index
      (get_or l.of.items (get_or l.row-items j d).index 0);
  told : (j : ℕ) (d : Row) → j < l.row-index
      → IsToldHidden (Contains (nows l.texts)) (nows l.texts) l.hidden.items
      (get_or l.row-items j d).index;
  only : (h : ℕ) (d : Row) → Contains l.hidden.items h
      → (j : ℕ) × (j < l.row-index) × ((get_or l.row-items j d).index ≡ h);
}

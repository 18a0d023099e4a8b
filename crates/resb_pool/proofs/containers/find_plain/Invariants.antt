use Rattle.std.proofs.Common.{◌≡◌, ◌+◌, ◌<◌, ℕ, [], length, get_or}
use Rattle.resb_pool.specs.Plan.{nows}
use Rattle.resb_pool.specs.Inner.Placing.{LiesAt}
use Rattle.resb_pool.specs.Inner.Suffixes.{IsKeyed, row_text}
use Rattle.resb_pool.specs.declared.suffix_order.Row.{Row}
use Rattle.resb_pool.specs.declared.packing.Packing.TheVariants.{Plain}
use Rattle.resb_pool.proofs.containers.find_plain.Given as goal

abbrev pub invariant-loop-row : goal.invariant-loop-row
invariant-loop-row l = record {
  len : length l.containers.items ≡ length l.texts;
  keyed : IsKeyed (nows l.texts) l.previous;
  first : l.row-index ≡ 0 → row_text (nows l.texts) l.previous ≡ [];
  last : (k : ℕ) (d : Row) → l.row-index ≡ k + 1
      → (row_text (nows l.texts) l.previous ≡ row_text (nows l.texts) (get_or l.row-items k d))
      × LiesAt Plain (nows l.texts) (get_or l.row-items k d).index l.container;
  lies : (j : ℕ) (d : Row) → j < l.row-index
      → LiesAt Plain (nows l.texts) (get_or l.row-items j d).index
      (get_or l.containers.items (get_or l.row-items j d).index 0);
}

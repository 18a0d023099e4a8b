-- Entries of a table on their way to a draft: keys, and the numbers of their values.
use Rattle.std.specs.Prelude.{ℕ, Bool, List, map}
use Rattle.std.specs.Borrow.{Bor}
use Rattle.std.specs.declared.cmp.Ordering.{Ordering}
use Rattle.resb_tree.specs.Maps.{text_cmp}
use Rattle.resb_draft.specs.Drafts.{texts_ascend}

-- whether the keys of entries ascend strictly
abbrev pub keys_ascend : List (Bor (List ℕ) × ℕ) → Bool
keys_ascend ps = texts_ascend (map (λ p. p.0.now) ps)

-- borrowed texts are ordered by their bytes
abbrev pub slice_order : Bor (List ℕ) → Bor (List ℕ) → Ordering
slice_order x y = text_cmp x.now y.now

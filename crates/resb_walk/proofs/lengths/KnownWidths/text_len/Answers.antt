use Rattle.std.proofs.Common.{ℕ, List, ◌≡◌, ◌∙◌, sym, length, Option, Some, None, ◌+◌, ◌≤◌}
use Rattle.std.proofs.Common.{take, drop}
use Rattle.std.specs.Prelude.{IfSome}
use Rattle.resb_blocks.specs.Wide.{text_width}
use Rattle.resb_format.specs.Bytes.{units_of}
use Rattle.resb_format.specs.Strings.{string_at, text_at}
use Rattle.resb_walk.proofs.Marked.{marked_width}
use Rattle.resb_walk.proofs.lengths.KnownWidths.text_len.Goals as goal

-- where the units behind a marker are known to be summed, their sum is the text's length
summed : (block : List ℕ) (u i n : ℕ) (o : Option ℕ)
    → (i + n ≤ length block → string_at block u ≡ Some (take n (drop i block)))
    → IfSome o (λ k. (i + n ≤ length block) × (k ≡ text_width (take n (drop i block))))
    → IfSome o (λ k. (s : List ℕ) → text_at block u ≡ Some s → length s ≡ k)
summed block u i n None at h = tt
summed block u i n (Some k) at h = λ s e. marked_width block u i n s (at h.0) e ∙ sym h.1

pub returns : goal.returns
returns c =
    summed (units_of c.args.self.now.block.now) c.args.unit c.in_ok-from.from c.in_ok-from.count
    c.units_len.result c.in_ok-from.ensures c.units_len.ensures

use Rattle.std.proofs.Common.{◌≤◌, ℕ, subst}
use Rattle.resb_swap.proofs.PackageLemmas.{named}
use Rattle.resb_swap.proofs.items.check_name.Goals as goal

pub returns : goal.returns
returns c =
    named _ _ _ _ c.word-place.ensures
    (subst (λ (n : ℕ). n ≤ c.word-place.result) c.table_end.ensures c.if-place-table_end.false)
    c.if-place-end.false c.requires.ends

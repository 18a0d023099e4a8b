use Rattle.std.proofs.Common.{Bor, List, ℕ, []}
use Rattle.resb_icu_text.proofs.ReadingLemmas.{more_keys}
use Rattle.resb_icu_text.proofs.reader.each_once.Goals as goal

pub loop-key-preserved : goal.loop-key-preserved
loop-key-preserved c =
    let d : Bor (List ℕ) = record { ref_ptr = (0, 0); now = [] } in
    more_keys _ _ d _ _ c.loop-key-test.true c.loop-key.invariant c.in_ok-list.ensures

-- Where no type is spelt behind any byte behind which it may stand, no group takes a file in.
use Rattle.std.proofs.Common.{◌≡◌, ◌+◌, ◌<◌, ℕ, List, None, true, length, subst, arith, slice_index}
use Rattle.resb_icu_files.specs.Ways.{way_at, may_precede}
use Rattle.resb_icu_files.proofs.WaysLemmas.{none_spelt}
use Rattle.resb_icu_files.proofs.way.may_take_files.Goals as goal

-- no type is spelt behind a byte of a text, behind which it may stand
abbrev Unspelt : List ℕ → Type 0
Unspelt text = (k : ℕ) → k < length text → may_precede (slice_index text k) ≡ true
    → way_at text (k + 1) ≡ None

pub returns-clause-none : goal.returns-clause-none
returns-clause-none c = λ e.
    none_spelt c.args.text.now
    (subst Unspelt c.as_bytes-bytes.ensures.value
    (λ k low. c.loop-at.invariant.none k (omega (arith, low, c.loop-at-test.false))))

use Rattle.std.proofs.Common.{◌+◌, ◌*◌, ◌-◌, ◌≤◌, ◌<◌, List, ℕ}
use Rattle.std.specs.String.{string_bytes}
use Rattle.resb_icu_grammar.specs.Pieces.{Joined}
use Rattle.resb_icu_text.proofs.PartsLemmas.{Left}
use Rattle.resb_icu_text.proofs.StringsLemmas.{Pieces}
use Rattle.resb_icu_text.proofs.strings.put_together.Given as goal

abbrev pub invariant-pieces : goal.invariant-pieces
invariant-pieces l = record {
  left : (said : List ℕ) → Joined l.text l.from l.end said
      → Left (Pieces l.text l.end) l.at (string_bytes l.fn.value) (string_bytes l.value) said;
  below : l.at < l.end;
  cost : l.turns.count + 2 * l.from ≤ l.fn.turns.count + 2 * l.at;
}

abbrev pub decreases-pieces : goal.decreases-pieces
decreases-pieces l = l.end - l.at

-- The count is that of the bytes that were passed.
use Rattle.std.proofs.Common.{◌≡◌, ◌≤◌}
use Rattle.resb_diagnostics.specs.Excerpt.{characters}
use Rattle.resb_diagnostics.proofs.excerpt.characters.Given as goal

abbrev pub invariant-bytes : goal.invariant-bytes
invariant-bytes l = (l.count ≡ characters l.text l.from l.passed) × (l.count ≤ l.passed)

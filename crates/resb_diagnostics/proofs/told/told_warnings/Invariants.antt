-- The lines of the warnings that were passed were appended, and aren't over the limit.
use Rattle.std.proofs.Common.{◌≡◌, false, length, take}
use Rattle.std.specs.String.{string_bytes}
use Rattle.resb_diagnostics.specs.Told.{is_over, warning_lines}
use Rattle.resb_diagnostics.proofs.told.told_warnings.Given as goal

abbrev pub invariant-loop-warning : goal.invariant-loop-warning
invariant-loop-warning l =
    (l.places ≡ l.text) × (string_bytes l.lines ≡ warning_lines l.text (take l.warning-index l.found))
    × (is_over l.limit (length (string_bytes l.lines)) ≡ false)

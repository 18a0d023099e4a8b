use Rattle.std.proofs.Common.{◌≡◌, drop}
use Rattle.std.specs.Prelude.{◌||◌}
use Rattle.resb_icu_print.specs.Inner.Escapes.{has_escape}
use Rattle.resb_icu_print.proofs.quoting.has_escape.Given as goal

abbrev pub invariant-loop-byte : goal.invariant-loop-byte
invariant-loop-byte l =
    (has_escape (drop l.byte-index l.byte-items) || l.is_found) ≡ has_escape l.text

-- What was appended, and what is left to append, are all blanks.
use Rattle.std.proofs.Common.{◌≡◌, ◌++◌, ◌-◌, replicate}
use Rattle.std.specs.String.{string_bytes}
use Rattle.resb_diagnostics.proofs.excerpt.push_blanks.Given as goal

abbrev pub invariant-loop-blank : goal.invariant-loop-blank
invariant-loop-blank l =
    string_bytes l.out ++ replicate (l.count - l.blank) 32
    ≡ string_bytes l.fn.out ++ replicate l.count 32

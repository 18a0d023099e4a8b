-- What was appended, and what is left to append, are what is shown of all bytes.
use Rattle.std.proofs.Common.{◌≡◌, ◌++◌, drop}
use Rattle.std.specs.String.{string_bytes}
use Rattle.std.specs.List.{flat_map}
use Rattle.resb_diagnostics.specs.Excerpt.{shown_byte}
use Rattle.resb_diagnostics.proofs.excerpt.push_bytes.Given as goal

abbrev pub invariant-loop-byte : goal.invariant-loop-byte
invariant-loop-byte l =
    string_bytes l.out ++ flat_map shown_byte (drop l.byte-index l.line)
    ≡ string_bytes l.fn.out ++ flat_map shown_byte l.line

-- What was appended, and what is left to append, are what is shown of all characters.
use Rattle.std.proofs.Common.{◌≡◌, ◌++◌, List, ℕ, true, map, encode_utf8_all}
use Rattle.std.specs.String.{string_bytes}
use Rattle.std.specs.Str.Iter.{chars_rest}
use Rattle.resb_diagnostics.specs.Excerpt.{shown_line, shown_character}
use Rattle.resb_diagnostics.proofs.excerpt.push_text.Given as goal

abbrev pub invariant-loop-c : goal.invariant-loop-c
invariant-loop-c l =
    (cs : List ℕ) × (encode_utf8_all cs ≡ chars_rest l.c-iterator)
    × (string_bytes l.out ++ encode_utf8_all (map shown_character cs)
    ≡ string_bytes l.fn.out ++ shown_line true l.text)

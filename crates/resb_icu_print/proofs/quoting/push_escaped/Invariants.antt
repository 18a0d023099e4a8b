use Rattle.std.proofs.Common.{◌≡◌, ◌++◌, List, ℕ}
use Rattle.std.specs.String.{string_bytes}
use Rattle.std.specs.Str.Iter.{chars_rest}
use Rattle.resb_icu_print.specs.Printed.{inside_on}
use Rattle.resb_icu_print.proofs.quoting.push_escaped.Given as goal

abbrev pub invariant-loop-c : goal.invariant-loop-c
invariant-loop-c l =
    (rest : List ℕ)
    → string_bytes l.out ++ inside_on (chars_rest l.c-iterator) rest
    ≡ string_bytes l.fn.out ++ inside_on l.text rest

use Rattle.std.proofs.Common.{◌≡◌, ◌++◌, ℕ, List}
use Rattle.std.specs.List.{flat_map}
use Rattle.std.specs.Char.Escape.{encode_utf16}
use Rattle.std.specs.Str.{encode_utf8_all}
use Rattle.std.specs.Str.Iter.{chars_rest}
use Rattle.resb_format.specs.Bytes.{units_as_bytes}
use Rattle.resb_format.specs.Units.{units}
use Rattle.resb_write.proofs.tail_bytes.put_text.Given as goal

abbrev pub invariant-loop-c : goal.invariant-loop-c
invariant-loop-c l =
    (cs : List ℕ) × (encode_utf8_all cs ≡ chars_rest l.c-iterator)
    × (l.tail.items ++ units_as_bytes (flat_map encode_utf16 cs)
    ≡ l.initial.tail.items ++ units_as_bytes (units l.text))

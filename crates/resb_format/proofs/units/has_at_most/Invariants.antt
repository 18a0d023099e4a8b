use Rattle.std.proofs.Common.{◌≡◌, ◌+◌, ℕ, List, length}
use Rattle.std.specs.List.{flat_map}
use Rattle.std.specs.Char.Escape.{encode_utf16}
use Rattle.std.specs.Str.{encode_utf8_all}
use Rattle.std.specs.Str.Iter.{chars_rest}
use Rattle.resb_format.specs.Units.{units}
use Rattle.resb_format.proofs.units.has_at_most.Given as goal

-- the characters still to come, whose units fit what is left exactly where all units fit
abbrev pub invariant-loop-c : goal.invariant-loop-c
invariant-loop-c l =
    (cs : List ℕ) × (encode_utf8_all cs ≡ chars_rest l.c-iterator)
    × (length (flat_map encode_utf16 cs) + l.most ≡ length (units l.text) + l.left)

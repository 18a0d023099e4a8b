use Rattle.std.proofs.Common.{List, ℕ, ◌++◌, ◌≡◌, length}
use Rattle.std.specs.Io.KnownBytes.{Appends}
use Rattle.hex.specs.Hex.{encode_lower}
use Rattle.resb_program.proofs.streams.write_line.Given as goal

-- the digits of the front are written
abbrev pub invariant-pieces : goal.invariant-pieces
invariant-pieces g l =
    (front : List ℕ) × (l.initial.rest ≡ front ++ l.rest)
    × Appends (g.W.Write.contents l.initial.writer) (g.W.Write.contents l.writer)
    (encode_lower front)

abbrev pub decreases-pieces : goal.decreases-pieces
decreases-pieces g l = length l.rest

use Rattle.std.proofs.Common.{◌≤◌, length}
use Rattle.std.specs.Io.KnownBytes.{Consumes}
use Rattle.resb_program.proofs.streams.read_within.Given as goal

-- the bytes so far are what the reader gave so far, and no more than are wanted
abbrev pub invariant-loop : goal.invariant-loop
invariant-loop g l =
    Consumes (g.R.Read.remaining l.initial.reader) (g.R.Read.remaining l.reader) l.bytes.items
    × (length l.bytes.items ≤ l.most)

use Rattle.std.specs.Io.KnownBytes.{Consumes}
use Rattle.resb_program.proofs.streams.read_all.Given as goal

-- the bytes so far are what the reader gave so far
abbrev pub invariant-loop : goal.invariant-loop
invariant-loop g l =
    Consumes (g.R.Read.remaining l.initial.reader) (g.R.Read.remaining l.reader) l.bytes.items

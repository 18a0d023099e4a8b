-- What was written, the run that isn't yet, and what is left of the bytes, are all bytes.
use Rattle.std.proofs.Common.{◌≡◌, ◌++◌, ◌≤◌, drop, slice_range}
use Rattle.json.specs.Print.{escape}
use Rattle.resb_json.proofs.quoted.push_escaped.Given as goal

abbrev pub invariant-loop-at : goal.invariant-loop-at
invariant-loop-at l = record {
  start : l.start ≤ l.at;
  text : l.out.items ++ (slice_range l.bytes l.start l.at ++ escape (drop l.at l.bytes))
      ≡ l.fn.out.items ++ escape l.bytes;
}

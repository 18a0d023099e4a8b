use Rattle.std.proofs.Common.{ℕ, ◌≡◌, ◌<◌, ◌≤◌, ◌*◌, length, take, get_or, encode_utf8_all}
use Rattle.resb_format.specs.Bytes.{units_of}
use Rattle.resb_walk.proofs.units.short_text.Given as goal

abbrev pub invariant-units : goal.invariant-units
invariant-units l = record {
  room : l.end ≤ 3 * l.number;
  long : length l.spelled ≡ 120;
  text : take l.end l.spelled ≡ encode_utf8_all (take l.number (units_of l.fn.bytes));
  plain : (k : ℕ) → k < l.number → get_or (units_of l.fn.bytes) k 0 < 0xd800;
}

use Rattle.std.proofs.Common.{ap, arith}
use Rattle.std.specs.Prelude.{option_map}
use Rattle.resb_read.proofs.cursor.Cursor.read_string.Goals as goal

pub returns-in_ok-from_str-in-Key-clause-read : goal.returns-in_ok-from_str-in-Key-clause-read
returns-in_ok-from_str-in-Key-clause-read c =
    rw (c.in-Key.is, c.in_ok-from_str-in-Key.ensures.ok)
    (0, (tt, ap (option_map (λ s. (s, 0))) c.in_ok-key-in-Key.ensures.stands), omega arith)

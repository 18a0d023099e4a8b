use Rattle.std.proofs.Common.{sym}
use Rattle.resb_read.proofs.helpers.option_i32.Goals as goal

pub returns : goal.returns
returns c = rw (sym c.cast_u32_to_i32_slice.ensures) at c.in_ok-words.ensures

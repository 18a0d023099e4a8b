use Rattle.std.proofs.Common.{refl}
use Rattle.std.specs.Char.Utf16.{utf16_chars}
use Rattle.std.specs.Str.{chars}
use Rattle.resb_format.specs.Bytes.{units_of}
use Rattle.resb_c.proofs.seen.text_of.Goals as goal

pub returns-in-Leaf-Empty-clause-units : goal.returns-in-Leaf-Empty-clause-units
unfolding chars utf16_chars units_of
returns-in-Leaf-Empty-clause-units c = refl

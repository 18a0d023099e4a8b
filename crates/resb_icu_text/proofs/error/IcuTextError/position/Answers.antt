use Rattle.std.proofs.Common.{refl}
use Rattle.resb_icu_text.proofs.error.IcuTextError.position.Goals as goal

pub returns : goal.returns
returns c = refl

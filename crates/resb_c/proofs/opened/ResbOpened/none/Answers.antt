use Rattle.std.proofs.Common.{refl}
use Rattle.resb_c.proofs.OpeningLemmas.{is_closed}
use Rattle.resb_c.proofs.opened.ResbOpened.none.Goals as goal

pub returns : goal.returns
returns c = is_closed _ c.of_member.ensures refl refl refl refl refl refl refl

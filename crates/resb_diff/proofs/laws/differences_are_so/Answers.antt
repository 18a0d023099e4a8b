use Rattle.std.proofs.Common.{[], refl}
use Rattle.std.proofs.lemmas.List.Elements.{All-from_recursion}
use Rattle.resb_diff.specs.Laws.{IsSo}
use Rattle.resb_diff.specs.Differences.{differences}
use Rattle.resb_diff.proofs.SoLemmas.{each_so}
use Rattle.resb_diff.proofs.laws.differences_are_so.Goals as goal

pub returns : goal.returns
returns c = λ t u m n.
    All-from_recursion (IsSo t u) (differences [] t u) (each_so t u [] t u m n refl refl)

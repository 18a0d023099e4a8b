-- The differences between two trees make the new one of the old one.
use Rattle.std.proofs.Common.{[], ◌++◌, subst, sym}
use Rattle.std.proofs.lemmas.List.Elements.{All-from_recursion}
use Rattle.resb_diff.specs.Differences.{differences}
use Rattle.resb_diff.specs.Applied.{DifferencesMake, IsWhole}
use Rattle.resb_diff.proofs.GivesLemmas.{gives}
use Rattle.resb_diff.proofs.AscendLemmas.{all_whole, all_ascend, pairs_ascend}
use Rattle.resb_diff.proofs.NeedsLemmas.{OneLess, left_out, needed}

pub differences_make : DifferencesMake
differences_make t u m n = record {
  gives = gives t u m n;
  needs = λ es fs d e.
      needed t u m n (es ++ fs) (subst (λ ds. OneLess ds (es ++ fs)) (sym e) (left_out es fs d));
  whole = All-from_recursion IsWhole (differences [] t u) (all_whole [] t u);
  ascend = pairs_ascend (differences [] t u) (all_ascend t u m n);
}

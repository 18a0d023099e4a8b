use denote.Text.{Utf8}
use denote.Shadow.{shadow}
use Rattle.resb_lent.proofs.TopsFound.{IsFoundBefore}
use Rattle.resb_lent.proofs.tops.tops.Given as goal

abbrev pub invariant-loop-number : goal.invariant-loop-number
invariant-loop-number l = record {
  utf8 : shadow (Utf8 l.previous);
  found : IsFoundBefore l.records l.number-items l.number-index l.previous l.tops.items;
}

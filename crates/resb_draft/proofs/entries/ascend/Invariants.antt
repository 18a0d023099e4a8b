use Rattle.std.proofs.Common.{◌≡◌, true, take}
use Rattle.resb_draft.specs.Drafts.{texts, texts_ascend}
use Rattle.resb_draft.proofs.entries.ascend.Given as goal

abbrev pub invariant-loop-at : goal.invariant-loop-at
invariant-loop-at l = record {
  ascend : texts_ascend (texts (take l.at l.keys)) ≡ true;
}

use Rattle.std.proofs.Common.{◌≡◌, ◌++◌, Bor, List, ℕ, map, take}
use Rattle.resb_filter.proofs.filtering.push_table.Given as goal

abbrev pub invariant-loop-entry : goal.invariant-loop-entry
invariant-loop-entry l = record {
  pieces : l.draft.pieces.items ≡ l.fn.draft.pieces.items;
  members : l.draft.members.items ≡ l.fn.draft.members.items
      ++ map (λ (e : Bor (List ℕ) × ℕ). e.1) (take l.entry-index l.entries);
  keys : l.draft.keys.items ≡ l.fn.draft.keys.items
      ++ map (λ (e : Bor (List ℕ) × ℕ). e.0) (take l.entry-index l.entries);
}

use Rattle.std.proofs.Common.{◌≡◌, ◌+◌, ◌≤◌, ◌++◌, Bor, List, ℕ, map, drop}
use Rattle.std.specs.Prelude.{None}
use Rattle.resb_text.specs.Inner.Drafts.{entries_after}
use Rattle.resb_text.proofs.drafts.push_entries.Given as goal

abbrev pub invariant-loop-item : goal.invariant-loop-item
invariant-loop-item l = record {
  pieces : l.draft.pieces.items ≡ l.fn.draft.pieces.items;
  members : l.draft.members.items
      ++ map (λ (e : Bor (List ℕ) × ℕ). e.1) (entries_after l.waiting (drop l.item-index l.items))
      ≡ l.fn.draft.members.items
      ++ map (λ (e : Bor (List ℕ) × ℕ). e.1) (entries_after None l.items);
  keys : l.draft.keys.items
      ++ map (λ (e : Bor (List ℕ) × ℕ). e.0) (entries_after l.waiting (drop l.item-index l.items))
      ≡ l.fn.draft.keys.items
      ++ map (λ (e : Bor (List ℕ) × ℕ). e.0) (entries_after None l.items);
  count : l.ticks.count ≤ l.fn.ticks.count + l.item-index;
}

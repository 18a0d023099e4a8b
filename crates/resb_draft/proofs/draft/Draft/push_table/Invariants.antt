use Rattle.std.proofs.Common.{◌≡◌, ◌++◌, Bor, List, ℕ, map, take}
use Rattle.resb_draft.specs.Drafts.{Keeps}
use Rattle.resb_draft.proofs.draft.Draft.push_table.Given as goal

abbrev pub invariant-loop-entry : goal.invariant-loop-entry
invariant-loop-entry l = record {
  members : l.self.members.items ≡ l.fn.self.members.items
      ++ map (λ (e : Bor (List ℕ) × ℕ). e.1) (take l.entry-index l.entries);
  keys : l.self.keys.items ≡ l.fn.self.keys.items
      ++ map (λ (e : Bor (List ℕ) × ℕ). e.0) (take l.entry-index l.entries);
  root : l.self.root ≡ l.fn.self.root;
  keeps : Keeps l.fn.self l.self;
}

-- The warnings so far are those of the keys that were passed, whose first places are known.
use Rattle.std.proofs.Common.{◌≡◌, ◌++◌, [], ℕ, List, take, drop, nat_eq}
use Rattle.std.specs.Prelude.{map}
use Rattle.std.specs.Cmp.Lexicographic.{pointwise}
use Rattle.indexmap.specs.IndexMap.{get_by}
use Rattle.resb_diagnostics.specs.Warnings.{of_keys, first_place}
use Rattle.resb_diagnostics.specs.Inner.Looks.{placed_text_of}
use Rattle.resb_diagnostics.proofs.groups.tell_keys.Given as goal

abbrev pub invariant-loop-key : goal.invariant-loop-key
invariant-loop-key l = record {
  found : l.found.items
      ++ of_keys (map placed_text_of (take l.key-index l.keys))
      (map placed_text_of (drop l.key-index l.keys))
      ≡ l.fn.found.items ++ of_keys [] (map placed_text_of l.keys);
  seen : (q : List ℕ) → get_by (λ k. pointwise nat_eq q k.now) l.seen
      ≡ first_place q (map placed_text_of (take l.key-index l.keys));
}

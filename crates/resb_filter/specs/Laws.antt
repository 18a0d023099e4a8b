-- What the laws of filtering say.
use Rattle.std.specs.Prelude.{◌≡◌, ℕ, List, []}
use Rattle.std.specs.Option.{option_and_then}
use Rattle.resb_tree.specs.Maps.{get}
use Rattle.resb_tree.specs.Tree.{Tree, Entries}
use Rattle.resb_filter.specs.Filtered.{Rule, filtered, filtered_entries, entry_left}

-- without rules a tree stays as it is
abbrev pub NoRulesLeaveAll : Type 0
NoRulesLeaveAll = (t : Tree) → filtered [] t ≡ t

-- what rules leave of a tree they leave as it is
abbrev pub FilteredOnce : Type 0
FilteredOnce = (rs : List Rule) (t : Tree) → filtered rs (filtered rs t) ≡ filtered rs t

-- what stands at a key of a table afterwards is what the rules leave of what stood there: all of
-- it, what is left of it, or nothing, as the last rule about that key says
abbrev pub LeftAtKey : Type 0
LeftAtKey = (rs : List Rule) (k : List ℕ) (es : Entries)
    → get k (filtered_entries rs es) ≡ option_and_then (entry_left rs k) (get k es)

-- What rules leave of a tree.
--     Rule                a rule: whether it keeps what its path leads to, and its path's pieces
--     stands_for p k      a piece stands for a key
--     below k rs          the rules about what stands at a key, without the pieces for it
--     verdict rs          what becomes of what rules are about: the last of them decides
--     filtered rs t       what rules leave of a tree
--     entry_left rs k t   what they leave of the tree at a key of a table: none, if the entry goes
use Rattle.std.specs.Prelude.{ℕ, Bool, true, false, ◌||◌, List, [], ◌∷◌, ◌++◌, Option, Some, None}
use Rattle.std.specs.Prelude.{if◌then◌else◌}
use Rattle.resb_tree.specs.Keys.{same_text}
use Rattle.resb_tree.specs.Tree.{Tree, table, Entries, no_entries, entry}
use Rattle.resb_filter.specs.declared.remaining.Verdict.{Verdict}
use Rattle.resb_filter.specs.declared.remaining.Verdict.TheVariants.{Whole, Out, Partly}

-- a rule: whether it keeps what its path leads to, or else leaves it out; and the path's pieces
abbrev pub Rule : Type 0
Rule = Bool × List (List ℕ)

-- a piece stands for a key: it is the key, or `*`, which is the byte 42 and stands for each key
abbrev pub stands_for : List ℕ → List ℕ → Bool
stands_for p k = same_text p (42 ∷ []) || same_text p k

-- what is left of a rule at a key: all of it, if its path has ended before, since it is about all
-- that stands inside; its other pieces, if the first stands for the key; else the rule is not about
-- what stands there
abbrev pub rule_below : List ℕ → Rule → List Rule
rule_below k (keeps, []) = (keeps, []) ∷ []
rule_below k (keeps, p ∷ ps) = if stands_for p k then (keeps, ps) ∷ [] else []

-- the rules that are about what stands at a key, in their order, without the pieces for it
abbrev pub below : List ℕ → List Rule → List Rule
below k [] = []
below k (r ∷ rs) = rule_below k r ++ below k rs

-- what a rule says of what it is about: if its path goes on, that something inside is filtered;
-- else that all stays or goes, by its sign
abbrev pub says : Rule → Verdict
says (true, []) = Whole
says (false, []) = Out
says (keeps, p ∷ ps) = Partly

-- what the last of these rules says, or the verdict before them where there is none
abbrev pub last_says : Verdict → List Rule → Verdict
last_says v [] = v
last_says v (r ∷ rs) = last_says (says r) rs

-- what becomes of what these rules are about: the last of them decides, and all stays without one
abbrev pub verdict : List Rule → Verdict
verdict rs = last_says Whole rs

-- the first, the second or none, by a verdict: as it is, filtered, or gone
abbrev pub by_verdict : Verdict → Tree → Tree → Option Tree
by_verdict Whole t u = Some t
by_verdict Partly t u = Some u
by_verdict Out t u = None

-- entries with one before them, if its tree is left
abbrev pub entry_before : List ℕ → Option Tree → Entries → Entries
entry_before k None es = es
entry_before k (Some t) es = entry k t es

abbrev mutual
  -- what rules leave of a tree: of a table, what they leave of its entries; any other tree stays
  pub filtered : List Rule → Tree → Tree
  filtered rs (table es) = table (filtered_entries rs es)
  filtered rs t = t

  -- what rules leave of entries: of each, its key with what the verdict of the rules about it
  -- leaves of its tree, if this isn't nothing
  pub filtered_entries : List Rule → Entries → Entries
  filtered_entries rs no_entries = no_entries
  filtered_entries rs (entry k t es) =
      entry_before k (by_verdict (verdict (below k rs)) t (filtered (below k rs) t))
      (filtered_entries rs es)

-- what rules leave of the tree at a key of a table: none, if the entry goes
abbrev pub entry_left : List Rule → List ℕ → Tree → Option Tree
entry_left rs k t = by_verdict (verdict (below k rs)) t (filtered (below k rs) t)

-- Tables that are open while rules go through them.
--     IsOpen d w t        the tree w is left of the open table t; what is left so far stands in d
--     Opens d rs n t      t is the table for which piece n stands, opened for these rules
--     Waits d w u t       it waits for a piece of the tree u, which is left of its next entry
--     weight d t          what is to be done in it, weight_behind d t what is behind that entry
--     StepsTo d t s o     a step leads from the table t to s, or into the table o
use Rattle.std.specs.Prelude.{◌≡◌, ℕ, ◌+◌, ◌*◌, ◌<◌, List, [], ◌∷◌, length, take, drop, get_or}
use Rattle.std.specs.Prelude.{Option, Some, None}
use Rattle.std.specs.Borrow.{Bor}
use Rattle.resb_tree.specs.Tree.{Tree, tree_count}
use Rattle.resb_draft.specs.Drafts.{tree_at}
use Rattle.resb_draft.specs.declared.draft.Draft.{Draft}
use Rattle.resb_filter.specs.Filtered.{Rule, filtered, entry_left}
use Rattle.resb_filter.specs.View.{rules_left}
use Rattle.resb_filter.specs.Inner.Entries.{seen, AreEntries}
use Rattle.resb_filter.specs.Inner.Left.{LeftSoFar}
use Rattle.resb_filter.specs.declared.open_tables.OpenTable.{OpenTable}

-- the rules that are about what stands in the table
abbrev pub own_rules : OpenTable → List Rule
own_rules t = rules_left t.rules.items

-- its entries stood in a draft that has grown since, and what is left of those done stands in it
pub record IsOpen (d : Draft) (w : Tree) (t : OpenTable) : Type 0 where
  pub start : Draft
  pub number : ℕ
  pub are : AreEntries start number t.entries.items
  pub so : LeftSoFar start d (entry_left (own_rules t)) (take t.done t.entries.items) t.left.items
  pub becomes : filtered (own_rules t) (tree_at start number) ≡ w

-- no entry
abbrev pub nothing_there : Bor (List ℕ) × ℕ
nothing_there = (record { ref_ptr = (0, 0); now = [] }, 0)

-- the entry that is next
abbrev pub next_entry : OpenTable → Bor (List ℕ) × ℕ
next_entry t = get_or t.entries.items t.done nothing_there

-- the next entry waits for a piece of this tree
pub record Waits (d : Draft) (w u : Tree) (t : OpenTable) : Type 0 where
  pub own : IsOpen d w t
  pub within : t.done < length t.entries.items
  pub stays : entry_left (own_rules t) (next_entry t).0.now (tree_at own.start (next_entry t).1)
      ≡ Some u

-- how many resources entries have, twice
abbrev pub twice_count : List (List ℕ × Tree) → ℕ
twice_count [] = 0
twice_count (p ∷ ps) = 2 * tree_count p.1 + twice_count ps

-- those of the entries that aren't done
abbrev pub weight : Draft → OpenTable → ℕ
weight d t = 1 + twice_count (drop t.done (seen (tree_at d) t.entries.items))

-- those of the entries behind the next one
abbrev pub weight_behind : Draft → OpenTable → ℕ
weight_behind d t = 1 + twice_count (drop (t.done + 1) (seen (tree_at d) t.entries.items))

-- the table of this piece, of which nothing is done, weighs less than its tree
pub record Opens (d : Draft) (rs : List Rule) (n : ℕ) (t : OpenTable) : Type 0 where
  pub own : IsOpen d (filtered rs (tree_at d n)) t
  pub small : weight d t < 2 * tree_count (tree_at d n)

-- the same is left of the table, which weighs less; or it waits for what is left of the table that
-- was opened
abbrev pub StepsTo : Draft → OpenTable → OpenTable → Option OpenTable → Type 0
StepsTo d t s None = ((w : Tree) → IsOpen d w t → IsOpen d w s) × (weight d s < weight d t)
StepsTo d t s (Some inner) =
    ((w : Tree) → IsOpen d w t → (u : Tree) × Waits d w u s × IsOpen d u inner)
    × (weight d inner + weight_behind d s < weight d t)

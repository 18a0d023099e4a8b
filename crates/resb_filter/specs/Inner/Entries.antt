-- Entries of a table in a draft: keys, and the numbers of their values.
--     seen tree ps            entries with the trees of their values
--     AreEntries d n ps       these are the entries of the table for which a piece stands
--     is_table t              the tree is a table
--     IsNoTable d n           a piece stands for no table
--     StaysAs d t o           a piece stands for this tree, if there is one, or none does
use Rattle.std.specs.Prelude.{◌≡◌, ℕ, Bool, true, false, List, Option, Some, None, map}
use Rattle.std.specs.Borrow.{Bor}
use Rattle.resb_tree.specs.Borrowing.{all_true}
use Rattle.resb_tree.specs.Tree.{Tree, string, alias, array, table, binary, integer, int_vector}
use Rattle.resb_tree.specs.Tree.{entries_of}
use Rattle.resb_draft.specs.Drafts.{tree_at, is_whole, IsMade}
use Rattle.resb_draft.specs.Inner.Entries.{keys_ascend}
use Rattle.resb_draft.specs.declared.draft.Draft.{Draft}

-- entries with the trees of their values
abbrev pub seen : (ℕ → Tree) → List (Bor (List ℕ) × ℕ) → List (List ℕ × Tree)
seen tree ps = map (λ p. (p.0.now, tree p.1)) ps

-- these are the entries of the table for which a piece stands, whole and by ascending keys
pub record AreEntries (d : Draft) (n : ℕ) (ps : List (Bor (List ℕ) × ℕ)) : Type 0 where
  pub tree : tree_at d n ≡ table (entries_of (seen (tree_at d) ps))
  pub ascend : keys_ascend ps ≡ true
  pub whole : all_true (map (λ (p : Bor (List ℕ) × ℕ). is_whole d p.1) ps) ≡ true

-- the tree is a table
abbrev pub is_table : Tree → Bool
is_table (table es) = true
is_table (string s) = false
is_table (alias s) = false
is_table (array ts) = false
is_table (binary s) = false
is_table (integer n) = false
is_table (int_vector s) = false

-- the tree for which a piece stands is no table
abbrev pub IsNoTable : Draft → ℕ → Type 0
IsNoTable d n = is_table (tree_at d n) ≡ false

-- the piece of the number that may be there stands for the tree that may be left
abbrev pub StaysAs : Draft → Option Tree → Option ℕ → Type 0
StaysAs d None None = Unit {0}
StaysAs d None (Some n) = ⊥
StaysAs d (Some t) None = ⊥
StaysAs d (Some t) (Some n) = IsMade d n t

-- What is still to be written, and its text. The last job comes first in the text.
use Rattle.std.specs.Prelude.{◌≡◌, ℕ, ◌+◌, ◌<◌, List, [], ◌∷◌, ◌++◌, map, length, drop, Bool, true}
use Rattle.std.specs.Prelude.{false, nat_lt}
use Rattle.std.specs.String.{string_bytes}
use Rattle.std.specs.declared.alloc.Global.{Global}
use Rattle.std.specs.declared.string.String.{String}
use Rattle.hex.specs.Hex.{encode_lower}
use Rattle.resb_tree.specs.Tree.{Tree, string, alias, array, table, binary, integer, int_vector}
use Rattle.resb_tree.specs.Tree.{Trees, no_trees, more_trees, Entries as TableEntries}
use Rattle.resb_tree.specs.Tree.{no_entries, entry}
use Rattle.resb_grammar.specs.Ascii as ascii
use Rattle.resb_print.specs.Printed.{deeper, line_on, close_on, end_on, numbers_on}
use Rattle.resb_print.specs.Printed.{more_numbers_on, root_type_on, tree_on, trees_on, entries_on}
use Rattle.resb_print.specs.Spelling.{Spelling}
use Rattle.resb_print.specs.declared.place.Place.{Place}
use Rattle.resb_print.specs.declared.place.Place.TheVariants.{InTable, InArray}
use Rattle.resb_shown.specs.Shown.{numbers_in}
use Rattle.resb_lines.specs.declared.task.Task.{Task}
use Rattle.resb_lines.specs.declared.task.Task.TheVariants.{Head, Entry, Member, Entries, Members}
use Rattle.resb_lines.specs.declared.task.Task.TheVariants.{Numbers, Digits, LineFeed}

pub data Job : Type 0 where
  head_job : List ℕ → Bool → Job
  entry_job : ℕ → List ℕ → Tree → Job
  member_job : ℕ → Tree → Job
  value_job : Place → ℕ → Tree → Job
  entries_job : Place → ℕ → TableEntries → Job
  members_job : Place → ℕ → Trees → Job
  numbers_job : Place → Bool → List ℕ → Job
  digits_job : Place → List ℕ → Job
  line_feed_job : Job

-- the job of a task, by the trees for which handles and ways stand
abbrev pub job_of : {S M E : Type 0} → (S → Tree) → (M → Trees) → (E → TableEntries)
    → Task S M E → Job
job_of t m e (Head name fallback) = head_job name.now fallback
job_of t m e (Entry k s n) = entry_job n k.now (t s)
job_of t m e (Member s n) = member_job n (t s)
job_of t m e (Entries ahead n p) = entries_job p n (e ahead)
job_of t m e (Members ahead n p) = members_job p n (m ahead)
job_of t m e (Numbers s at p) = numbers_job p (nat_lt 0 at) (drop at (numbers_in (t s)))
job_of t m e (Digits bytes p) = digits_job p bytes.now
job_of t m e LineFeed = line_feed_job

abbrev pub jobs_in : {S M E : Type 0} → (S → Tree) → (M → Trees) → (E → TableEntries)
    → List (Task S M E) → List Job
jobs_in t m e tasks = map (job_of t m e) tasks

-- numbers behind others, or the first ones
abbrev pub numbers_left : Bool → List ℕ → List ℕ → List ℕ
numbers_left true ns rest = more_numbers_on ns rest
numbers_left false ns rest = numbers_on ns rest

-- a comma, where something stands before it
abbrev pub comma_on : Bool → List ℕ → List ℕ
comma_on true rest = ascii.comma ∷ rest
comma_on false rest = rest

-- what a job writes before what follows it
abbrev pub job_on : Spelling → Job → List ℕ → List ℕ
job_on f (head_job name fallback) rest =
    f.name_on name (root_type_on fallback (ascii.left_brace ∷ rest))
job_on f (entry_job n k t) rest = line_on n (f.key_on k (tree_on f InTable n t rest))
job_on f (member_job n t) rest = line_on n (tree_on f InArray n t rest)
job_on f (value_job p n t) rest = tree_on f p n t rest
job_on f (entries_job p n es) rest = entries_on f (deeper n) es (close_on n (end_on p rest))
job_on f (members_job p n ts) rest = trees_on f (deeper n) ts (close_on n (end_on p rest))
job_on f (numbers_job p later ns) rest =
    numbers_left later ns (ascii.right_brace ∷ end_on p rest)
job_on f (digits_job p bytes) rest =
    encode_lower bytes ++ (ascii.quote ∷ ascii.right_brace ∷ end_on p rest)
job_on f line_feed_job rest = ascii.line_feed ∷ rest

-- what all jobs write, the last one first
abbrev pub jobs_on : Spelling → List Job → List ℕ → List ℕ
jobs_on f [] rest = rest
jobs_on f (j ∷ js) rest = jobs_on f js (job_on f j rest)

-- and nothing behind them
abbrev pub all_on : Spelling → List Job → List ℕ
all_on f js = jobs_on f js []

abbrev mutual
  -- a bound on the turns that a tree takes
  pub tree_turns : Tree → ℕ
  tree_turns (string s) = 1
  tree_turns (alias s) = 1
  tree_turns (array ts) = trees_turns ts + 2
  tree_turns (table es) = entries_turns es + 2
  tree_turns (binary bytes) = length bytes + 2
  tree_turns (integer n) = 1
  tree_turns (int_vector ns) = length ns + 2

  pub trees_turns : Trees → ℕ
  trees_turns no_trees = 0
  trees_turns (more_trees t ts) = trees_turns ts + tree_turns t + 2

  pub entries_turns : TableEntries → ℕ
  entries_turns no_entries = 0
  entries_turns (entry k t es) = entries_turns es + tree_turns t + 2

abbrev pub job_turns : Job → ℕ
job_turns (head_job name fallback) = 1
job_turns (entry_job n k t) = tree_turns t + 1
job_turns (member_job n t) = tree_turns t + 1
job_turns (value_job p n t) = tree_turns t
job_turns (entries_job p n es) = entries_turns es + 1
job_turns (members_job p n ts) = trees_turns ts + 1
job_turns (numbers_job p later ns) = length ns + 1
job_turns (digits_job p bytes) = length bytes + 1
job_turns line_feed_job = 1

-- a bound on the turns that are left
abbrev pub turns_of : List Job → ℕ
turns_of [] = 0
turns_of (j ∷ js) = turns_of js + job_turns j

-- a job is done, as far as it is not among the jobs that are left
pub record DoesJob (f : Spelling) (old new : String Global) (before after : List Job) (j : Job)
    : Type 0 where
  pub text : (rest : List ℕ)
      → string_bytes new ++ jobs_on f after rest
      ≡ string_bytes old ++ job_on f j (jobs_on f before rest)
  pub fewer : turns_of after < turns_of before + job_turns j

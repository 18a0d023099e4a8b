-- What is still to be written, and its text. The last job comes first in the text.
use Rattle.std.specs.Prelude.{◌≡◌, ℕ, ◌+◌, ◌<◌, List, [], ◌∷◌, ◌++◌, map, length, drop, Bool, codes}
use Rattle.std.specs.Prelude.{nat_lt}
use Rattle.hex.specs.Hex.{encode_lower}
use Rattle.json.specs.Print.{escape}
use Rattle.serde_json.specs.Data.{Members, no_members, member}
use Rattle.serde_json.specs.View.{items_of}
use Rattle.serde_json.specs.Written.{compact_text, items_text, members_text}
use Rattle.resb_tree.specs.Tree.{Tree, string, alias, array, table, binary, integer, int_vector}
use Rattle.resb_tree.specs.Tree.{Trees, no_trees, more_trees, Entries as TableEntries}
use Rattle.resb_tree.specs.Tree.{no_entries, entry}
use Rattle.resb_shown.specs.Shown.{numbers_in}
use Rattle.resb_json.specs.Json.{json_of, members_json, vector_number}
use Rattle.resb_json.specs.declared.task.Task.{Task}
use Rattle.resb_json.specs.declared.task.Task.TheVariants.{Value, Members as MembersTask}
use Rattle.resb_json.specs.declared.task.Task.TheVariants.{Entries as EntriesTask, Numbers, Digits}

pub data Job : Type 0 where
  value_job : Tree → Job
  members_job : Bool → Trees → Job
  entries_job : Bool → TableEntries → Job
  numbers_job : Bool → List ℕ → Job
  digits_job : List ℕ → Job

-- the job of a task, by the trees for which handles and ways stand
abbrev pub job_of : {S M E : Type 0} → (S → Tree) → (M → Trees) → (E → TableEntries)
    → Task S M E → Job
job_of t m e (Value s) = value_job (t s)
job_of t m e (MembersTask ahead later) = members_job later (m ahead)
job_of t m e (EntriesTask ahead later) = entries_job later (e ahead)
job_of t m e (Numbers s n) = numbers_job (nat_lt 0 n) (drop n (numbers_in (t s)))
job_of t m e (Digits bytes) = digits_job bytes.now

abbrev pub jobs_in : {S M E : Type 0} → (S → Tree) → (M → Trees) → (E → TableEntries)
    → List (Task S M E) → List Job
jobs_in t m e tasks = map (job_of t m e) tasks

-- the members of an object, as the entries stand
abbrev pub listed_json : TableEntries → Members
listed_json no_entries = no_members
listed_json (entry k t es) = member k (json_of t) (listed_json es)

-- what a job writes
abbrev pub job_text : Job → List ℕ
job_text (value_job t) = compact_text (json_of t)
job_text (members_job later ts) = items_text later (members_json ts)
job_text (entries_job later es) = members_text later (listed_json es)
job_text (numbers_job later ns) = items_text later (items_of (map vector_number ns))
job_text (digits_job bytes) = escape (encode_lower bytes) ++ codes "\"}"

-- what all jobs write
abbrev pub texts_of : List Job → List ℕ
texts_of [] = []
texts_of (j ∷ js) = texts_of js ++ job_text j

abbrev mutual
  -- a bound on the turns that a tree takes
  pub tree_turns : Tree → ℕ
  tree_turns (string s) = 1
  tree_turns (alias s) = 1
  tree_turns (array ts) = trees_turns ts + 2
  tree_turns (table es) = entries_turns es + 2
  tree_turns (binary bytes) = length bytes + 2
  tree_turns (integer n) = 1
  tree_turns (int_vector ns) = length ns + 2

  pub trees_turns : Trees → ℕ
  trees_turns no_trees = 0
  trees_turns (more_trees t ts) = trees_turns ts + tree_turns t + 1

  pub entries_turns : TableEntries → ℕ
  entries_turns no_entries = 0
  entries_turns (entry k t es) = entries_turns es + tree_turns t + 1

abbrev pub job_turns : Job → ℕ
job_turns (value_job t) = tree_turns t
job_turns (members_job later ts) = trees_turns ts + 1
job_turns (entries_job later es) = entries_turns es + 1
job_turns (numbers_job later ns) = length ns + 1
job_turns (digits_job bytes) = length bytes + 1

-- a bound on the turns that are left
abbrev pub turns_of : List Job → ℕ
turns_of [] = 0
turns_of (j ∷ js) = turns_of js + job_turns j

-- a job is done, as far as it is not among the jobs that are left
pub record DoesJob (old new : List ℕ) (before after : List Job) (j : Job) : Type 0 where
  pub text : new ++ texts_of after ≡ old ++ (job_text j ++ texts_of before)
  pub fewer : turns_of after < turns_of before + job_turns j

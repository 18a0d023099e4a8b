-- What a job adds to a text has at least the bytes that are counted for it.
use Rattle.std.proofs.Common.{◌≡◌, ℕ, ◌+◌, ◌<◌, ◌≤◌, List, [], ◌∷◌, ◌++◌}
use Rattle.std.proofs.Common.{length, ap, ◌∙◌, arith}
use Rattle.std.specs.String.{string_bytes}
use Rattle.std.specs.declared.alloc.Global.{Global}
use Rattle.std.specs.declared.string.String.{String}
use Rattle.std.proofs.lemmas.List.{length-append}
use Rattle.hex.specs.Hex.{encode_lower, lower_digits}
use Rattle.hex.proofs.HexLemmas.{length-encode_with}
use Rattle.resb_tree.specs.Tree.{Tree, string, alias, array, table, binary, integer, int_vector}
use Rattle.resb_print.specs.Spelling.{Spelling}
use Rattle.resb_print.specs.Printed.{line_on, end_on, tree_on, string_on}
use Rattle.resb_print.specs.declared.place.Place.{Place}
use Rattle.resb_print.specs.declared.place.Place.TheVariants.{InTable, InArray}
use Rattle.resb_print.proofs.Sizes.{indent_length}
use Rattle.resb_shown.specs.Shown.{text_in}
use Rattle.resb_lines.specs.Growing.{Grows}
use Rattle.resb_lines.specs.Inner.Jobs.{Job, head_job, entry_job, member_job, value_job}
use Rattle.resb_lines.specs.Inner.Jobs.{entries_job, members_job, numbers_job, digits_job}
use Rattle.resb_lines.specs.Inner.Jobs.{line_feed_job, job_on, jobs_on}
use Rattle.resb_lines.specs.Inner.Room.{job_least}
use Rattle.resb_lines.proofs.Jobs.{jobs_behind}

-- a line is no shorter than what is on it
line_least : (n : ℕ) (rest : List ℕ) → length rest ≤ length (line_on n rest)
line_least n rest = omega (arith, indent_length n rest)

module _ (f : Spelling) (grows : Grows f) where
  string_least : (p : Place) (s rest : List ℕ) → length s ≤ length (string_on f p s rest)
  string_least InTable s rest = omega (arith, grows.pieces s (125 ∷ rest))
  string_least InArray s rest = omega (arith, grows.pieces s (44 ∷ rest))

  tree_least : (p : Place) (n : ℕ) (t : Tree) (rest : List ℕ)
      → length (text_in t) ≤ length (tree_on f p n t rest)
  tree_least p n (string s) rest = string_least p s rest
  tree_least p n (alias s) rest = omega (arith, grows.pieces s (125 ∷ end_on p rest))
  tree_least p n (array ts) rest = omega arith
  tree_least p n (table es) rest = omega arith
  tree_least p n (binary bs) rest = omega arith
  tree_least p n (integer v) rest = omega arith
  tree_least p n (int_vector ns) rest = omega arith

  job_on_least : (j : Job) (rest : List ℕ) → job_least j ≤ length (job_on f j rest)
  job_on_least (head_job name fallback) rest = omega arith
  job_on_least (entry_job n k t) rest =
      let more = tree_on f InTable n t rest in
      omega (
        arith,
        line_least n (f.key_on k more),
        grows.keys k more,
        tree_least InTable n t rest,
      )
  job_on_least (member_job n t) rest =
      omega (arith, line_least n (tree_on f InArray n t rest), tree_least InArray n t rest)
  job_on_least (value_job p n t) rest = omega arith
  job_on_least (entries_job p n es) rest = omega arith
  job_on_least (members_job p n ts) rest = omega arith
  job_on_least (numbers_job p later ns) rest = omega arith
  job_on_least (digits_job p bytes) rest =
      omega (
        arith,
        length-append (encode_lower bytes) (34 ∷ 125 ∷ end_on p rest),
        length-encode_with lower_digits bytes,
      )
  job_on_least line_feed_job rest = omega arith

  -- where a job has no room, the text has none
  pub no_room : (limit written : ℕ) (now : String Global) (first last left : List Job) (j : Job)
      → last ≡ left ++ j ∷ [] → string_bytes now ++ jobs_on f last [] ≡ jobs_on f first []
      → written ≡ length (string_bytes now) → limit < written + job_least j
      → limit < length (jobs_on f first [])
  no_room limit written now first last left j e w is over =
      let more = jobs_on f left [] in
      let next : jobs_on f last [] ≡ job_on f j more =
      ap (λ js. jobs_on f js []) e ∙ jobs_behind f left (j ∷ []) [] in
      omega (
        arith,
        over,
        ap length w,
        ap length next,
        length-append (string_bytes now) (jobs_on f last []),
        job_on_least j more,
      )

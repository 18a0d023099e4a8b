-- Jobs behind jobs, and what it takes that one is done.
use Rattle.std.specs.Prelude.{◌≡◌, ℕ, ◌+◌, ◌<◌, List, [], ◌∷◌, ◌++◌, length}
use Rattle.std.specs.String.{string_bytes}
use Rattle.std.specs.declared.alloc.Global.{Global}
use Rattle.std.specs.declared.string.String.{String}
use Rattle.std.proofs.Common.{refl, sym, ap, ◌∙◌, arith, append_assoc, append-nil}
use Rattle.std.proofs.lemmas.List.{map_push, length-append}
use Rattle.resb_tree.specs.Tree.{Tree, Trees, Entries}
use Rattle.resb_print.specs.Inner.Appends.{Appends}
use Rattle.resb_print.specs.declared.place.Place.{Place}
use Rattle.resb_print.specs.Spelling.{Spelling}
use Rattle.resb_print.specs.Printed.{tree_on}
use Rattle.resb_lines.specs.declared.task.Task.{Task}
use Rattle.resb_lines.specs.Inner.Jobs.{Job, job_of, jobs_in, job_on, jobs_on, job_turns, turns_of}
use Rattle.resb_lines.specs.Inner.Jobs.{value_job, DoesJob}

-- jobs behind others come before these in the text
pub jobs_behind : (f : Spelling) (js ks : List Job) (rest : List ℕ)
    → jobs_on f (js ++ ks) rest ≡ jobs_on f ks (jobs_on f js rest)
jobs_behind f [] ks rest = refl
jobs_behind f (j ∷ js) ks rest = jobs_behind f js ks (job_on f j rest)

pub turns_behind : (js ks : List Job) → turns_of (js ++ ks) ≡ turns_of js + turns_of ks
turns_behind [] ks = omega arith
turns_behind (j ∷ js) ks = omega (arith, turns_behind js ks)

-- a job is done where what was written, and what is left of it, are its text
pub does : (f : Spelling) (old new : String Global) (write : List ℕ → List ℕ)
    (before after left : List Job) (j : Job)
    → Appends old new write → after ≡ before ++ left
    → ((rest : List ℕ) → job_on f j rest ≡ write (jobs_on f left rest))
    → turns_of left < job_turns j → DoesJob f old new before after j
does f old new write before after left j w a e h = record {
  text = λ rest. ap (λ js. string_bytes new ++ jobs_on f js rest) a
      ∙ ap (λ l. string_bytes new ++ l) (jobs_behind f before left rest)
      ∙ w (jobs_on f left (jobs_on f before rest))
      ∙ ap (λ l. string_bytes old ++ l) (sym (e (jobs_on f before rest)));
  fewer = omega (arith, turns_behind before left, ap turns_of a);
}

-- the same where it leaves nothing
pub does_all : (f : Spelling) (old new : String Global) (write : List ℕ → List ℕ)
    (before after : List Job) (j : Job)
    → Appends old new write → after ≡ before
    → ((rest : List ℕ) → job_on f j rest ≡ write rest) → 0 < job_turns j
    → DoesJob f old new before after j
does_all f old new write before after j w a e h =
    does f old new write before after [] j w (a ∙ sym (append-nil before)) e (omega arith)

-- what begins with something that is written, and goes on as a resource
pub begins_value : (f : Spelling) (old now new : String Global) (write : List ℕ → List ℕ)
    (before after : List Job) (p : Place) (n : ℕ) (t : Tree) (j : Job)
    → Appends old now write → DoesJob f now new before after (value_job p n t)
    → ((rest : List ℕ) → job_on f j rest ≡ write (tree_on f p n t rest))
    → job_turns (value_job p n t) < job_turns j → DoesJob f old new before after j
begins_value f old now new write before after p n t j w d e h = record {
  text = λ rest. d.text rest ∙ w (tree_on f p n t (jobs_on f before rest))
      ∙ ap (λ l. string_bytes old ++ l) (sym (e (jobs_on f before rest)));
  fewer = omega (arith, d.fewer);
}

-- what was written in two steps
pub in_turn : (old now new : String Global) (first second : List ℕ → List ℕ)
    → Appends old now first → Appends now new second
    → Appends old new (λ rest. first (second rest))
in_turn old now new first second a b = λ rest. b rest ∙ a (second rest)

-- bytes that were put behind others
pub appends_bytes : (old new : String Global) (w : List ℕ)
    → string_bytes new ≡ string_bytes old ++ w → Appends old new (λ rest. w ++ rest)
appends_bytes old new w e =
    λ rest. ap (λ l. l ++ rest) e ∙ append_assoc (string_bytes old) w rest

module _ {S M E : Type 0} (t : S → Tree) (m : M → Trees) (e : E → Entries) where
  -- a task was put
  pub put_one : (old new : List (Task S M E)) (x : Task S M E) → new ≡ old ++ x ∷ []
      → jobs_in t m e new ≡ jobs_in t m e old ++ job_of t m e x ∷ []
  put_one old new x f = ap (jobs_in t m e) f ∙ map_push (job_of t m e) old x

  -- and another behind it
  pub put_two : (old now new : List (Task S M E)) (x y : Task S M E) → now ≡ old ++ x ∷ []
      → new ≡ now ++ y ∷ []
      → jobs_in t m e new ≡ jobs_in t m e old ++ job_of t m e x ∷ job_of t m e y ∷ []
  put_two old now new x y f g =
      put_one now new y g
      ∙ ap (λ l. l ++ job_of t m e y ∷ []) (put_one old now x f)
      ∙ append_assoc (jobs_in t m e old) (job_of t m e x ∷ []) (job_of t m e y ∷ [])

-- where the last job is done, what was written and what is left are the same as before
pub turns_fall : (f : Spelling) (now new : String Global) (last left rest : List Job) (j : Job)
    → last ≡ left ++ j ∷ [] → DoesJob f now new left rest j → turns_of rest < turns_of last
turns_fall f now new last left rest j e d =
    omega (arith, d.fewer, ap turns_of e, turns_behind left (j ∷ []))

-- a block ends with the lines that were made
pub block_ends : (old new line rest all : List ℕ) → new ≡ old ++ line → line ++ rest ≡ all
    → new ++ rest ≡ old ++ all
block_ends old new line rest all n w =
    ap (λ l. l ++ rest) n ∙ append_assoc old line rest ∙ ap (λ l. old ++ l) w

-- where a text is made and nothing left out, what was made and what is left are the text
pub text_grows : (f : Spelling) (now new : String Global) (first last left rest : List Job)
    (j : Job)
    → last ≡ left ++ j ∷ [] → string_bytes now ++ jobs_on f last [] ≡ jobs_on f first []
    → DoesJob f now new left rest j
    → string_bytes new ++ jobs_on f rest [] ≡ jobs_on f first []
text_grows f now new first last left rest j e w d =
    d.text []
    ∙ ap (λ l. string_bytes now ++ l) (sym (ap (λ js. jobs_on f js []) e
    ∙ jobs_behind f left (j ∷ []) []))
    ∙ w

-- a text that was made in part has more bytes than a limit where that part has
pub part_is_long : (limit : ℕ) (new : String Global) (rest all : List ℕ)
    → string_bytes new ++ rest ≡ all → limit < length (string_bytes new) → limit < length all
part_is_long limit new rest all e h =
    omega (arith, h, length-append (string_bytes new) rest, ap length e)

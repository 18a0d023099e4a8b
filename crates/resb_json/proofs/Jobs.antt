-- Jobs behind jobs, and what it takes that one is done.
use Rattle.std.specs.Prelude.{◌≡◌, ℕ, ◌+◌, ◌<◌, List, [], ◌∷◌, ◌++◌}
use Rattle.std.proofs.Common.{sym, ap, ◌∙◌, arith, append_assoc, append-nil}
use Rattle.std.proofs.lemmas.List.{map_push}
use Rattle.resb_tree.specs.Tree.{Tree, Trees, Entries}
use Rattle.resb_json.specs.declared.task.Task.{Task}
use Rattle.resb_json.specs.Inner.Jobs.{Job, job_of, jobs_in, job_text, texts_of, job_turns}
use Rattle.resb_json.specs.Inner.Jobs.{turns_of, DoesJob}

-- what jobs behind others write comes before what those write
pub texts_behind : (js ks : List Job) → texts_of (js ++ ks) ≡ texts_of ks ++ texts_of js
texts_behind [] ks = sym (append-nil (texts_of ks))
texts_behind (j ∷ js) ks =
    ap (λ l. l ++ job_text j) (texts_behind js ks)
    ∙ append_assoc (texts_of ks) (texts_of js) (job_text j)

pub turns_behind : (js ks : List Job) → turns_of (js ++ ks) ≡ turns_of js + turns_of ks
turns_behind [] ks = omega arith
turns_behind (j ∷ js) ks = omega (arith, turns_behind js ks)

-- a job is done where what was written, and what is left of it, are its text
pub does : (old new text : List ℕ) (before after left : List Job) (j : Job)
    → new ≡ old ++ text → after ≡ before ++ left → job_text j ≡ text ++ texts_of left
    → turns_of left < job_turns j → DoesJob old new before after j
does old new text before after left j w f e h = record {
  text = (λ i. w i ++ texts_of (f i))
      ∙ ap (λ l. (old ++ text) ++ l) (texts_behind before left)
      ∙ append_assoc old text (texts_of left ++ texts_of before)
      ∙ ap (λ l. old ++ l) (sym (append_assoc text (texts_of left) (texts_of before))
      ∙ ap (λ l. l ++ texts_of before) (sym e));
  fewer = omega (arith, turns_behind before left, ap turns_of f);
}

module _ {S M E : Type 0} (t : S → Tree) (m : M → Trees) (e : E → Entries) where
  -- a task was put
  pub put_one : (old new : List (Task S M E)) (x : Task S M E) → new ≡ old ++ x ∷ []
      → jobs_in t m e new ≡ jobs_in t m e old ++ job_of t m e x ∷ []
  put_one old new x f = ap (jobs_in t m e) f ∙ map_push (job_of t m e) old x

  -- and another behind it
  pub put_two : (old now new : List (Task S M E)) (x y : Task S M E) → now ≡ old ++ x ∷ []
      → new ≡ now ++ y ∷ []
      → jobs_in t m e new ≡ jobs_in t m e old ++ job_of t m e x ∷ job_of t m e y ∷ []
  put_two old now new x y f g =
      put_one now new y g
      ∙ ap (λ l. l ++ job_of t m e y ∷ []) (put_one old now x f)
      ∙ append_assoc (jobs_in t m e old) (job_of t m e x ∷ []) (job_of t m e y ∷ [])

-- where the last job is done, what was written and what is left are the same as before
pub text_kept : (old now new : List ℕ) (first last left rest : List Job) (j : Job)
    → last ≡ left ++ j ∷ [] → now ++ texts_of last ≡ old ++ texts_of first
    → DoesJob now new left rest j → new ++ texts_of rest ≡ old ++ texts_of first
text_kept old now new first last left rest j e w d =
    d.text ∙ ap (λ l. now ++ l) (sym (ap texts_of e ∙ texts_behind left (j ∷ []))) ∙ w

pub turns_fall : (now new : List ℕ) (last left rest : List Job) (j : Job)
    → last ≡ left ++ j ∷ [] → DoesJob now new left rest j → turns_of rest < turns_of last
turns_fall now new last left rest j e d =
    omega (arith, d.fewer, ap turns_of e, turns_behind left (j ∷ []))

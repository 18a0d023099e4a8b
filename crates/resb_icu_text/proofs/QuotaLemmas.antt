-- How a reading goes on that keeps to a quota, and how one stops.
use Rattle.std.proofs.Common.{◌≡◌, ◌∙◌, ℕ, ◌+◌, true, List, inl, inr, refl, sym, arith, subst}
use Rattle.std.proofs.lemmas.Bool.{false≢true}
use Rattle.std.specs.Prelude.{Result, Ok, Err, MatchResult}
use Rattle.std.specs.Result.{IsErrAnd}
use Rattle.resb_grammar.specs.declared.limit.Limit.{Limit}
use Rattle.resb_icu_grammar.specs.Limit.{made_by, by_a_step}
use Rattle.resb_icu_grammar.specs.Machine.{Waiting, Standing, behind_group, Reading, reading_at}
use Rattle.resb_icu_grammar.specs.Machine.{Move, StepOut}
use Rattle.resb_icu_grammar.specs.Stuck.{ReadStuck, in_root}
use Rattle.resb_icu_grammar.proofs.Blocked.{makes_on, makes_out, NumbersFit, stuck_never_more}
use Rattle.resb_tree.specs.Tree.{Tree}
use Rattle.resb_icu_text.specs.Inner.Quota.{TakesBytes, RunsOver, IsAt, GoesOn, StopsAt}
use Rattle.resb_icu_text.specs.Refusal.{want_of_memory}
use Rattle.resb_icu_text.specs.declared.quota.Quota.{Quota}
use Rattle.resb_icu_text.specs.declared.error.IcuTextError.{IcuTextError}

-- what is answered for an error that is this one
pub match_fails : {T E : Type 0} {x : E} (P : T → Type 0) (G : E → Type 0) (r : Result T E)
    → IsErrAnd r (λ e. e ≡ x) → G x → MatchResult r P G
match_fails P G (Ok y) h g = absurd h
match_fails P G (Err e) h g = subst G (sym h) g

-- what is said of an answer, said by other words
pub match_by : {T E : Type 0} (P : T → Type 0) (G : E → Type 0) (Q : T → Type 0) (H : E → Type 0)
    (r : Result T E) → ((x : T) → P x → Q x) → ((e : E) → G e → H e) → MatchResult r P G
    → MatchResult r Q H
match_by P G Q H (Ok x) f g h = f x h
match_by P G Q H (Err e) f g h = g e h

-- nothing is taken of a quota
pub none_taken : (q : Quota) → TakesBytes q q 0
none_taken q = record { left = omega arith; weights = refl; over = refl }

-- two takings are one
pub both_taken : {p q r : Quota} {n m k : ℕ} → TakesBytes p q n → TakesBytes q r m → k ≡ n + m
    → TakesBytes p r k
both_taken s t e =
    record {
      left = omega (arith, s.left, t.left, e);
      weights = t.weights ∙ s.weights;
      over = t.over ∙ s.over;
    }

-- what is taken first counts, where more was asked for
pub taken_over : {p q r : Quota} {n m k : ℕ} → TakesBytes p q n → RunsOver q r m → k ≡ n + m
    → RunsOver p r k
taken_over t o e = record { more = omega (arith, t.left, o.more, e); over = o.over }

-- as many bytes by other words
pub as_many : {p q : Quota} {n m : ℕ} → TakesBytes p q n → n ≡ m → TakesBytes p q m
as_many {p} {q} t e = subst (λ k. TakesBytes p q k) e t

module _ {text : List ℕ} {p q : Quota} where
  -- a step inside a group, and what it makes
  pub by_move : {n : ℕ} (ws : List Waiting) (ks : List (List ℕ)) (s : Standing) (at : ℕ)
      (r : Reading) → (m : Move text ws ks s at r) → n ≡ made_by p.weights m → TakesBytes p q n
      → GoesOn text p q (reading_at ws ks s at) r
  by_move {n} ws ks s at r m e t limit a = record {
    bytes = a.bytes + made_by limit.weights m;
    made = makes_on text a.bytes ws ks s at r a.made m;
    sum = omega (arith, a.sum, t.left, subst (λ w. n ≡ made_by w m) a.weights e);
    weights = t.weights ∙ a.weights;
    over = t.over ∙ a.over;
  }

  -- a step by which more than the quota has would be made
  pub over_stops : {n : ℕ} (ws : List Waiting) (ks : List (List ℕ)) (s : Standing) (at : ℕ)
      (r : Reading) (e : IcuTextError) → (m : Move text ws ks s at r) → n ≡ made_by p.weights m
      → RunsOver p q n → e ≡ want_of_memory → StopsAt text p q (reading_at ws ks s at) e
  over_stops {n} ws ks s at r e m h o memory limit a = record {
    fails = inl memory;
    over = λ _. by_a_step a.bytes ws ks s at r a.made m
        (omega (arith, a.sum, o.more, subst (λ w. n ≡ made_by w m) a.weights h));
  }

  not_over : {A : Type 0} {n : ℕ} {limit : Limit} {r : Reading} → TakesBytes p q n
      → IsAt text limit p r → q.is_over ≡ true → A
  not_over t a o = absurd (false≢true (sym (t.over ∙ a.over) ∙ o))

  -- memory is wanted, once what was asked for is taken
  pub memory_stops : {n : ℕ} (r : Reading) (e : IcuTextError) → TakesBytes p q n
      → e ≡ want_of_memory → StopsAt text p q r e
  memory_stops r e t memory limit a = record { fails = inl memory; over = λ o. not_over t a o }

  -- a reading is stuck
  pub stuck_stops : {n : ℕ} (r : Reading) (e : IcuTextError) → TakesBytes p q n
      → ReadStuck text r e.position e.expected → NumbersFit text r n → StopsAt text p q r e
  stuck_stops {n} r e t s fit limit a = record {
    fails = inr (record {
      stuck = in_root a.made.name a.made.fallback a.made.first a.made.header (record {
        last = r;
        comes = a.made.comes;
        there = s;
      });
      first = stuck_never_more text limit a.bytes n r e.position e.expected a.made s
          (omega (arith, a.sum, t.left)) fit;
    });
    over = λ o. not_over t a o;
  }

-- a step out of a group makes nothing
pub by_step_out : (text : List ℕ) (q : Quota) (ws : List Waiting) (ks : List (List ℕ)) (t : Tree)
    (at : ℕ) (r : Reading) → StepOut text ks t at ws r
    → GoesOn text q q (reading_at ws ks (behind_group t) at) r
by_step_out text q ws ks t at r m limit a = record {
  bytes = a.bytes;
  made = makes_out text a.bytes ws ks t at r a.made m;
  sum = a.sum;
  weights = a.weights;
  over = a.over;
}

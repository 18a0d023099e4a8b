-- A quota is kept whether more may be made or not.
use Rattle.std.proofs.Common.{◌≡◌, ℕ, ◌+◌, ◌*◌, ◌<◌, ◌≤◌, true, List, [], ◌∷◌, ◌++◌, length, arith}
use Rattle.std.proofs.Common.{refl, sym, ap, ◌∙◌, inl, inr, ⊎_elim, subst, length-append}
use Rattle.std.proofs.lemmas.Bool.{false≢true}
use Rattle.resb_grammar.specs.Limit.{number_bytes}
use Rattle.resb_grammar.specs.Limit.{MadeWithin, MakesMore}
use Rattle.resb_grammar.specs.declared.limit.Limit.{Limit}
use Rattle.resb_grammar.proofs.MadeOnce.{never_more, blocked_never_more}
use Rattle.resb_text.specs.Answer.{NeverMore}
use Rattle.resb_text.specs.Inner.Failing.{StuckAfter, FailsAfter}
use Rattle.resb_text.specs.Inner.Quota.{KeepsQuota, IsUnused, TakesBytes, RunsOver}
use Rattle.std.specs.Prelude.{Result, MatchResult}
use Rattle.std.specs.Result.{IsErrAnd}
use Rattle.resb_text.specs.Inner.Steps.{Stops}
use Rattle.resb_text.specs.Refusal.{want_of_memory}
use Rattle.resb_text.specs.declared.quota.Quota.{Quota}
use Rattle.resb_text.specs.declared.error.TextParserError.{TextParserError}
use Rattle.resb_grammar.proofs.Numbers.{plus_no_bytes}
use Rattle.resb_text.proofs.Outcomes.{match_err}

-- the same limits have as many bytes
pub bytes_same : {l m : Limit} → l ≡ m → l.bytes ≡ m.bytes
bytes_same same = ap (λ (l : Limit). l.bytes) same

-- what was asked for is made
pub quota_kept : {text : List ℕ} {limit : Limit} {n : ℕ} {p q : Quota} → KeepsQuota text limit p
    → TakesBytes p q n
    → KeepsQuota text limit q
quota_kept k t = record {
  same = t.same ∙ k.same;
  within = omega (arith, t.within, bytes_same k.same);
  over = λ e. k.over (sym t.over ∙ e);
}

-- what was asked for is what the next token makes, and is more than the limit
pub quota_over : {text : List ℕ} {limit : Limit} {n : ℕ} {p q : Quota} → KeepsQuota text limit p
    → RunsOver p q n → (limit.bytes < p.made + n → MakesMore text limit) → KeepsQuota text limit q
quota_over k r more = record {
  same = r.same ∙ k.same;
  within = omega (arith, r.made, k.within);
  over = λ e. more (omega (arith, r.more, bytes_same k.same));
}

-- nothing is taken of a quota
pub none_taken : {p : Quota} → p.made ≤ p.limit.bytes → TakesBytes p p 0
none_taken {p} within =
    record { same = refl; made = plus_no_bytes p.made; within = within; over = refl }

-- one number more is taken
pub number_taken : (v : ℕ) (ns : List ℕ) {p q r : Quota}
    → TakesBytes p q (number_bytes * length ns) → TakesBytes q r number_bytes
    → TakesBytes p r (number_bytes * length (ns ++ v ∷ []))
number_taken v ns before takes = record {
  same = takes.same ∙ before.same;
  made = omega (arith, before.made, takes.made, length-append ns (v ∷ []));
  within = omega (arith, takes.within, bytes_same before.same);
  over = takes.over ∙ before.over;
}

-- a quota of which nothing was taken is kept
pub unused_kept : {text : List ℕ} {q : Quota} → IsUnused q → KeepsQuota text q.limit q
unused_kept u = record {
  same = refl;
  within = omega (arith, u.made);
  over = λ e. absurd (false≢true (sym u.over ∙ e));
}

-- the limit that is kept is the quota's own
pub own_limit_kept : {text : List ℕ} {limit : Limit} {q : Quota} → KeepsQuota text limit q
    → KeepsQuota text q.limit q
own_limit_kept {text} k = record {
  same = refl;
  within = omega (arith, bytes_same k.same, k.within);
  over = λ e. subst (λ l. MakesMore text l) (sym k.same) (k.over e);
}

-- where more was asked for than this limit, no reading stays within it
pub larger : {text : List ℕ} {limit n : Limit} {q : Quota} → KeepsQuota text limit q
    → q.is_over ≡ true → limit ≡ n → MadeWithin text n → ⊥
larger {text} k over same within =
    never_more _ _ within (subst (λ l. MakesMore text l) same (k.over over))

-- what fails after no more bytes than the limit comes before more are made
pub fails_first : {text : List ℕ} {limit : Limit} {n : ℕ} {e : TextParserError}
    → FailsAfter limit.weights text n e → n ≤ limit.bytes → NeverMore text limit e
fails_first {text} {limit} {n} {e} h within =
    ⊎_elim (λ (m : e ≡ want_of_memory). inl m)
    (λ (s : StuckAfter limit.weights text n e). inr (blocked_never_more text limit n e.position
    s.state s.made s.none within)) h

-- and before more than the same limit
pub fails_first_same : {text : List ℕ} {limit other : Limit} {n : ℕ} {e : TextParserError}
    → other ≡ limit → FailsAfter other.weights text n e → n ≤ other.bytes → NeverMore text limit e
fails_first_same {text} {e = e} same h within =
    subst (λ (l : Limit). NeverMore text l e) same (fails_first h within)

-- want of memory, once what was asked for is counted
pub memory_stops : {text : List ℕ} {limit : Limit} {n : ℕ} {p q : Quota} {T : Type 0}
    (P : T → Type 0) (r : Result T TextParserError) → IsErrAnd r (λ e. e ≡ want_of_memory)
    → KeepsQuota text limit p → TakesBytes p q n → MatchResult r P (Stops text limit q)
memory_stops {text} {limit} {n} {p} {q} P r h k t =
    match_err P (Stops text limit q) r h
    (λ e same. record { fails = inl same; keeps = quota_kept k t })

-- Rules at a key: one after another, and the last one.
use Rattle.std.proofs.Common.{◌≡◌, ◌+◌, ◌<◌, ℕ, Bool, true, false, List, [], ◌∷◌, ◌++◌}
use Rattle.std.proofs.Common.{refl, sym, ap, ◌∙◌, arith, length, append-nil, append_assoc}
use Rattle.resb_filter.specs.Filtered.{Rule, rule_below, below, says, last_says}
use Rattle.std.proofs.Common.{Bor, take, get_or}
use Rattle.std.specs.Prelude.{◌==◌, Option, Some, None}
use Rattle.std.proofs.lemmas.Bool.{false≢true, eqb-true}
use Rattle.std.proofs.lemmas.List.{map_push, take_more}
use Rattle.resb_draft.specs.Drafts.{texts}
use Rattle.resb_filter.specs.View.{rule_left, rules_left, option_list}
use Rattle.resb_filter.specs.declared.remaining.Remaining.{Remaining}
use Rattle.resb_filter.specs.Filtered.{verdict}
use Rattle.resb_filter.specs.declared.remaining.Verdict.{Verdict}
use Rattle.resb_filter.specs.declared.remaining.Verdict.TheVariants.{Whole, Out, Partly}

-- the rules at a key, with one more behind the others
pub below-push : (k : List ℕ) (rs : List Rule) (r : Rule)
    → below k (rs ++ r ∷ []) ≡ below k rs ++ rule_below k r
below-push k [] r = append-nil (rule_below k r)
below-push k (s ∷ rs) r =
    ap (λ l. rule_below k s ++ l) (below-push k rs r)
    ∙ sym (append_assoc (rule_below k s) (below k rs) (rule_below k r))

-- the last rule decides
pub last_decides : (v : Verdict) (rs : List Rule) (r : Rule)
    → last_says v (rs ++ r ∷ []) ≡ says r
last_decides v [] r = refl
last_decides v (s ∷ rs) r = last_decides (says s) rs r

-- what is decided is what the last rule says
pub decided : (rs front : List Remaining) (r : Remaining) → rs ≡ front ++ r ∷ []
    → verdict (rules_left rs) ≡ says (rule_left r)
decided rs front r e =
    ap (λ l. verdict (rules_left l)) e ∙ ap verdict (map_push rule_left front r)
    ∙ last_decides Whole (rules_left front) (rule_left r)

-- a rule whose path goes on
pub says_partly : (b : Bool) (ks : List (Bor (List ℕ))) → (length ks == 0) ≡ false
    → says (b, texts ks) ≡ Partly
says_partly b [] h = absurd (false≢true (sym h))
says_partly true (k ∷ ks) h = refl
says_partly false (k ∷ ks) h = refl

-- a rule that keeps, whose path has ended
pub says_whole : (b : Bool) (ks : List (Bor (List ℕ))) → (length ks == 0) ≡ true → b ≡ true
    → says (b, texts ks) ≡ Whole
says_whole b (k ∷ ks) h e = absurd (omega (arith, eqb-true (length (k ∷ ks)) 0 h))
says_whole true [] h e = refl
says_whole false [] h e = absurd (false≢true e)

-- a rule that leaves out, whose path has ended
pub says_out : (b : Bool) (ks : List (Bor (List ℕ))) → (length ks == 0) ≡ true → b ≡ false
    → says (b, texts ks) ≡ Out
says_out b (k ∷ ks) h e = absurd (omega (arith, eqb-true (length (k ∷ ks)) 0 h))
says_out true [] h e = absurd (false≢true (sym e))
says_out false [] h e = refl

rules_more : (k : List ℕ) (rs : List Remaining) (i : ℕ) (d : Remaining) → i < length rs
    → below k (rules_left (take i rs)) ++ rule_below k (rule_left (get_or rs i d))
    ≡ below k (rules_left (take (i + 1) rs))
rules_more k rs i d lt =
    sym (below-push k (rules_left (take i rs)) (rule_left (get_or rs i d)))
    ∙ ap (below k) (sym (map_push rule_left (take i rs) (get_or rs i d))
    ∙ ap rules_left (sym (take_more rs i d lt)))

-- a rule more that is about what stands at the key
pub one_more : (k : List ℕ) (rs : List Remaining) (i : ℕ) (d x : Remaining)
    (found new : List Remaining) (o : Option Remaining) → i < length rs
    → rules_left found ≡ below k (rules_left (take i rs))
    → option_list o ≡ rule_below k (rule_left (get_or rs i d)) → o ≡ Some x
    → new ≡ found ++ x ∷ [] → rules_left new ≡ below k (rules_left (take (i + 1) rs))
one_more k rs i d x found new o lt so at is all =
    ap rules_left all ∙ map_push rule_left found x
    ∙ (λ j. so j ++ (ap option_list (sym is) ∙ at) j) ∙ rules_more k rs i d lt

-- a rule more that is not
pub none_more : (k : List ℕ) (rs : List Remaining) (i : ℕ) (d : Remaining)
    (found new : List Remaining) (o : Option Remaining) → i < length rs
    → rules_left found ≡ below k (rules_left (take i rs))
    → option_list o ≡ rule_below k (rule_left (get_or rs i d)) → o ≡ None
    → new ≡ found → rules_left new ≡ below k (rules_left (take (i + 1) rs))
none_more k rs i d found new o lt so at is all =
    ap rules_left all ∙ so ∙ sym (append-nil (below k (rules_left (take i rs))))
    ∙ ap (λ l. below k (rules_left (take i rs)) ++ l) (ap option_list (sym is) ∙ at)
    ∙ rules_more k rs i d lt

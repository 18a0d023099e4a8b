-- The entries of a table, read one by one.
use Rattle.std.proofs.Common.{ℕ, List, [], ◌∷◌, ◌++◌, ◌≡◌, ◌≤◌, ◌+◌, Some, sym}
use Rattle.std.proofs.Common.{subst, arith, add_assoc}
use Rattle.resb_tree.specs.Tree.{Tree}
use Rattle.resb_format.specs.Parts.{Parts}
use Rattle.resb_format.specs.Lookups.{key_in}
use Rattle.resb_format.specs.Content.{Member}
use Rattle.resb_format.specs.Denotes.{DenMember, DenEntries, entries_none, entries_more}
use Rattle.resb_format.specs.Denotes.{ReachesMember}
use Rattle.resb_format.specs.Denotes.{ReachesEntries, entries_here, entries_later}
use Rattle.resb_format.proofs.Denoting.{unique_member}
use Rattle.resb_format.proofs.Denoting.{counted_member}

module _ (p : Parts) where
  -- one more entry at the end
  pub entries_snoc : {es : List (ℕ × Member)} {ts : List (List ℕ × Tree)} {a : ℕ} (place : ℕ)
      (x : Member) (key : List ℕ) (t : Tree) (n : ℕ)
      → DenEntries p es ts a → key_in p place ≡ Some key → DenMember p x t n
      → DenEntries p (es ++ (place, x) ∷ []) (ts ++ (key, t) ∷ []) (a + n)
  entries_snoc place x key t n entries_none h d =
      let D : ℕ
      → Type 0 = λ k. DenEntries p ((place, x) ∷ []) ((key, t) ∷ []) k in
      let e : n + 0 ≡ 0 + n = omega arith in subst D e (entries_more h d entries_none)
  entries_snoc place x key t n (entries_more {m = m'} {at = at'} {j = j'} {k = k'} {es = es'}
      {key = key'} {t = t'} {ts = ts'} g c cs) h d =
      let D : ℕ
      → Type 0 = λ i. DenEntries p ((at', m') ∷ (es' ++ (place, x) ∷ []))
      ((key', t') ∷ (ts' ++ (key, t) ∷ [])) i in
      subst D (sym (add_assoc j' k' n)) (entries_more g c (entries_snoc place x key t n cs h d))

  -- what the rest reaches, all reach
  pub reach_after_entries : {es : List (ℕ × Member)} {ts : List (List ℕ × Tree)} {a : ℕ}
      (rest : List (ℕ × Member)) (i : ℕ)
      → DenEntries p es ts a → ReachesEntries p rest i → ReachesEntries p (es ++ rest) (a + i)
  reach_after_entries rest i entries_none r =
      let D : ℕ
      → Type 0 = λ j. ReachesEntries p rest j in let e : i ≡ 0 + i = omega arith in subst D e r
  reach_after_entries rest i (entries_more {m = m'} {at = at'} {j = j'} {k = k'}
      {es = es'} g c cs) r =
      let D : ℕ → Type 0 = λ j. ReachesEntries p ((at', m') ∷ (es' ++ rest)) j in
      subst D (sym (add_assoc j' k' i)) (entries_later g c (reach_after_entries rest i cs r))

  -- an entry whose key or member is at fault
  pub none_entries : (es : List (ℕ × Member)) (place : ℕ) (x : Member) (rest : List (ℕ × Member))
      (none : (key : List ℕ) (t : Tree) (n : ℕ)
      → key_in p place ≡ Some key → DenMember p x t n
      → ⊥) (ts : List (List ℕ × Tree)) (n : ℕ)
      → DenEntries p (es ++ (place, x) ∷ rest) ts n → ⊥
  none_entries [] place x rest none ts n (entries_more g d ds) = none _ _ _ g d
  none_entries (e ∷ es) place x rest none ts n (entries_more g d ds) =
      none_entries es place x rest none _ _ ds

  -- an entry that is at fault, and reaches no more than is left
  pub stuck_entries : {es : List (ℕ × Member)} {ts : List (List ℕ × Tree)} {a : ℕ} (place : ℕ)
      (x : Member) (rest : List (ℕ × Member)) (left i : ℕ)
      (none : (key : List ℕ) (t : Tree) (n : ℕ)
      → key_in p place ≡ Some key → DenMember p x t n → ⊥) (stuck : (key : List ℕ)
      → key_in p place ≡ Some key → ReachesMember p x (left + 1) → ⊥)
      → DenEntries p es ts a → i ≡ a + left + 1 → ReachesEntries p (es ++ (place, x) ∷ rest) i → ⊥
  stuck_entries place x rest left i none stuck entries_none e (entries_here g r) =
      let f : i ≡ left + 1 = omega arith in let D : ℕ
      → Type 0 = λ j. ReachesMember p x j in stuck _ g (subst D f r)
  stuck_entries place x rest left i none stuck entries_none e (entries_later g d r) = none _ _ _ g d
  stuck_entries place x rest left i none stuck (entries_more {j = j'} {k = k'} g c cs) e
      (entries_here h r) = let f : i ≤ j' = counted_member p c r in
      absurd (omega arith)
  stuck_entries place x rest left i none stuck (entries_more {j = j'} {k = k'} g c cs) e
      (entries_later {j = j''} {n = n''} h d r) =
      let u : j' ≡ j'' = (unique_member p c d).1 in
      stuck_entries place x rest left n'' none stuck cs (omega arith) r

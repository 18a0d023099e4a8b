-- What members denote and reach one by one, where one more is read at their end.
use Rattle.std.proofs.Common.{ℕ, List, [], ◌∷◌, ◌++◌, ◌≡◌, ◌≤◌, ◌+◌, sym, subst}
use Rattle.std.proofs.Common.{arith, add_assoc}
use Rattle.resb_tree.specs.Tree.{Tree}
use Rattle.resb_format.specs.Parts.{Parts}
use Rattle.resb_format.specs.Content.{Member}
use Rattle.resb_format.specs.Denotes.{DenMember, DenEach, each_none, each_more}
use Rattle.resb_format.specs.Denotes.{ReachesMember, ReachesEach}
use Rattle.resb_format.specs.Denotes.{each_here, each_later}
use Rattle.resb_format.proofs.Denoting.{unique_member, counted_member}

module _ (p : Parts) where
  -- one more member at the end
  pub each_snoc : {ms : List Member} {ts : List Tree} {a : ℕ} (x : Member) (t : Tree) (n : ℕ)
      → DenEach p ms ts a → DenMember p x t n → DenEach p (ms ++ x ∷ []) (ts ++ t ∷ []) (a + n)
  each_snoc x t n each_none d =
      let D : ℕ
      → Type 0 = λ k. DenEach p (x ∷ []) (t ∷ []) k in let e : n + 0 ≡ 0 + n = omega arith in
      subst D e (each_more d each_none)
  each_snoc x t n (each_more {m = m'} {j = j'} {k = k'} {ms = ms'} {t = t'} {ts = ts'} c cs) d =
      let D : ℕ → Type 0 = λ i. DenEach p (m' ∷ (ms' ++ x ∷ [])) (t' ∷ (ts' ++ t ∷ [])) i in
      subst D (sym (add_assoc j' k' n)) (each_more c (each_snoc x t n cs d))

  -- what the rest reaches, all reach
  pub reach_after : {ms : List Member} {ts : List Tree} {a : ℕ} (rest : List Member) (i : ℕ)
      → DenEach p ms ts a → ReachesEach p rest i → ReachesEach p (ms ++ rest) (a + i)
  reach_after rest i each_none r =
      let D : ℕ
      → Type 0 = λ j. ReachesEach p rest j in let e : i ≡ 0 + i = omega arith in subst D e r
  reach_after rest i (each_more {m = m'} {j = j'} {k = k'} {ms = ms'} c cs) r =
      let D : ℕ → Type 0 = λ j. ReachesEach p (m' ∷ (ms' ++ rest)) j in
      subst D (sym (add_assoc j' k' i)) (each_later c (reach_after rest i cs r))

  -- a member that denotes nothing
  pub none_each : (ms : List Member) (x : Member) (rest : List Member)
      (none : (t : Tree) (n : ℕ) → DenMember p x t n → ⊥) (ts : List Tree) (n : ℕ)
      → DenEach p (ms ++ x ∷ rest) ts n → ⊥
  none_each [] x rest none ts n (each_more d ds) = none _ _ d
  none_each (y ∷ ms) x rest none ts n (each_more d ds) = none_each ms x rest none _ _ ds

  -- a member that denotes nothing, and reaches no more than is left
  pub stuck_each : {ms : List Member} {ts : List Tree} {a : ℕ} (x : Member) (rest : List Member)
      (left i : ℕ) (none : (t : Tree) (n : ℕ) → DenMember p x t n → ⊥)
      (stuck : ReachesMember p x (left + 1) → ⊥)
      → DenEach p ms ts a → i ≡ a + left + 1 → ReachesEach p (ms ++ x ∷ rest) i → ⊥
  stuck_each x rest left i none stuck each_none e (each_here r) =
      let f : i ≡ left + 1 = omega arith in let D : ℕ
      → Type 0 = λ j. ReachesMember p x j in stuck (subst D f r)
  stuck_each x rest left i none stuck each_none e (each_later d r) = none _ _ d
  stuck_each x rest left i none stuck (each_more {j = j'} {k = k'} c cs) e
      (each_here r) = let f : i ≤ j' = counted_member p c r in
      absurd (omega arith)
  stuck_each x rest left i none stuck (each_more {j = j'} {k = k'} c cs) e
      (each_later {j = j''} {n = n''} d r) =
      let u : j' ≡ j'' = (unique_member p c d).1 in
      stuck_each x rest left n'' none stuck cs (omega arith) r

-- From the members of a word to the word.
use Rattle.std.proofs.Common.{inl, inr, ℕ, List, ◌≡◌, ◌+◌, Some, None}
use Rattle.std.proofs.Common.{subst, arith}
use Rattle.resb_tree.specs.Tree.{Tree}
use Rattle.resb_format.specs.Parts.{Parts}
use Rattle.resb_format.specs.Content.{Member, list, entry_list, content_at, word, unit}
use Rattle.resb_format.specs.Denotes.{Den, den_leaf, den_list, den_entries, DenMember, den_word}
use Rattle.resb_format.specs.Denotes.{DenEach, DenEntries, Reaches, reaches_one, reaches_list}
use Rattle.resb_format.specs.Denotes.{reaches_entries, ReachesMember, reaches_word, reaches_unit}
use Rattle.resb_format.specs.Denotes.{ReachesEach, ReachesEntries}
use Rattle.resb_format.proofs.Denoting.{same_list, same_entries, leaf_list, leaf_entries}
use Rattle.resb_format.proofs.Denoting.{list_entries}
use Rattle.resb_walk.specs.Refusals.{DenotesNothing, Refuses}
use Rattle.resb_format.specs.declared.error.ReadingError.{ReadingError}
use Rattle.resb_format.proofs.Lists.{some_none}

module _ (p : Parts) where
  pub none_of_none : {w n : ℕ} {t : Tree} → content_at p w ≡ None → Den p w t n → ⊥
  none_of_none e (den_leaf f) = some_none e f
  none_of_none e (den_list f d) = some_none e f
  none_of_none e (den_entries f d) = some_none e f

  pub none_of_list : {w n : ℕ} {t : Tree} {ms : List Member} → content_at p w ≡ Some (list ms)
      → ((ts : List Tree) (k : ℕ) → DenEach p ms ts k → ⊥) → Den p w t n → ⊥
  none_of_list e none (den_leaf f) = leaf_list f e
  none_of_list e none (den_list {n = n'} {ts = ts'} f d) = none _ _
      (subst (λ vs. DenEach p vs ts' n') (same_list f e) d)
  none_of_list e none (den_entries f d) = list_entries e f

  few_of_list : {w k : ℕ} (left : ℕ) {ms : List Member} → content_at p w ≡ Some (list ms)
      → (ReachesEach p ms (left + 1) → ⊥) → k ≡ left + 1 + 1 → Reaches p w k → ⊥
  few_of_list left e none h reaches_one = omega arith
  few_of_list left {ms = ms} e none h (reaches_list {n = n'} f r) =
      let g : n' ≡ left + 1 = omega arith in
      none (subst (λ j. ReachesEach p ms j) g
      (subst (λ vs. ReachesEach p vs n') (same_list f e) r))
  few_of_list left e none h (reaches_entries f r) = list_entries e f

  pub stuck_list : (w left before : ℕ) (ms : List Member) → content_at p w ≡ Some (list ms)
      → left + 1 ≡ before → DenotesNothing (DenEach p ms) (ReachesEach p ms) left
      → DenotesNothing (Den p w) (Reaches p w) before
  stuck_list w left before ms e h f = (
    (λ t n d. none_of_list e f.0 d),
    (λ r. let g : before + 1 ≡ left + 1 + 1 = omega arith in few_of_list left e f.1 g r),
  )

  pub none_of_entries : {w n : ℕ} {t : Tree} {es : List (ℕ × Member)}
      → content_at p w ≡ Some (entry_list es)
      → ((ts : List (List ℕ × Tree)) (k : ℕ) → DenEntries p es ts k → ⊥) → Den p w t n → ⊥
  none_of_entries e none (den_leaf f) = leaf_entries f e
  none_of_entries e none (den_list f d) = list_entries f e
  none_of_entries e none (den_entries {n = n'} {ts = ts'} f d) = none _ _
      (subst (λ vs. DenEntries p vs ts' n') (same_entries f e) d)

  few_of_entries : {w k : ℕ} (left : ℕ) {es : List (ℕ × Member)}
      → content_at p w ≡ Some (entry_list es)
      → (ReachesEntries p es (left + 1) → ⊥) → k ≡ left + 1 + 1 → Reaches p w k → ⊥
  few_of_entries left e none h reaches_one = omega arith
  few_of_entries left e none h (reaches_list f r) = list_entries f e
  few_of_entries left {es = es} e none h (reaches_entries {n = n'} f r) =
      let g : n' ≡ left + 1 = omega arith in
      none (subst (λ j. ReachesEntries p es j) g
      (subst (λ vs. ReachesEntries p vs n') (same_entries f e) r))

  pub stuck_entries_of : (w left before : ℕ) (es : List (ℕ × Member))
      → content_at p w ≡ Some (entry_list es)
      → left + 1 ≡ before → DenotesNothing (DenEntries p es) (ReachesEntries p es) left
      → DenotesNothing (Den p w) (Reaches p w) before
  stuck_entries_of w left before es e h f = (
    (λ t n d. none_of_entries e f.0 d),
    (λ r. let g : before + 1 ≡ left + 1 + 1 = omega arith in few_of_entries left e f.1 g r),
  )

  pub word_den : {w n : ℕ} {t : Tree} → DenMember p (word w) t n → Den p w t n
  word_den (den_word d) = d

  word_reaches : {w n : ℕ} → ReachesMember p (word w) n → Reaches p w n
  word_reaches (reaches_word r) = r

  -- a word as a member
  pub stuck_word : (w left : ℕ) → DenotesNothing (Den p w) (Reaches p w) left
      → DenotesNothing (DenMember p (word w)) (ReachesMember p (word w)) left
  stuck_word w left s = ((λ t n d. s.0 t n (word_den d)), (λ r. s.1 (word_reaches r)))

  pub refused_word : (w left : ℕ) (e : ReadingError) → Refuses (Den p w) (Reaches p w) left e
      → Refuses (DenMember p (word w)) (ReachesMember p (word w)) left e
  refused_word w left e (inl m) = inl m
  refused_word w left e (inr (inl (s, r))) = inr (inl (s, reaches_word r))
  refused_word w left e (inr (inr (f, r))) = inr (inr (f, stuck_word w left r))

  pub word_stuck : (w left : ℕ)
      → DenotesNothing (DenMember p (word w)) (ReachesMember p (word w)) left
      → DenotesNothing (Den p w) (Reaches p w) left
  word_stuck w left s = ((λ t n d. s.0 t n (den_word d)), (λ r. s.1 (reaches_word r)))

  pub word_refused : (w left : ℕ) (e : ReadingError)
      → Refuses (DenMember p (word w)) (ReachesMember p (word w)) left e
      → Refuses (Den p w) (Reaches p w) left e
  word_refused w left e (inl m) = inl m
  word_refused w left e (inr (inl (s, r))) = inr (inl (s, word_reaches r))
  word_refused w left e (inr (inr (f, r))) = inr (inr (f, word_stuck w left r))

  pub reaches_any : (x : Member) → ReachesMember p x 1
  reaches_any (word w) = reaches_word reaches_one
  reaches_any (unit u) = reaches_unit

-- The laws of filtering.
use Rattle.std.proofs.Common.{◌≡◌, ℕ, Bool, true, false, cond, List, [], refl, sym, ap, ◌∙◌}
use Rattle.std.proofs.lemmas.Bool.{false≢true}
use Rattle.std.proofs.lemmas.Bool.Decides.{Decides-eqb}
use Rattle.std.proofs.lemmas.Slice.Eq.{slice_eq-Decides}
use Rattle.std.specs.Cmp.Lexicographic.{pointwise, texts_ties}
use Rattle.std.specs.Option.{option_and_then}
use Rattle.std.specs.Ordering.{eq_by_cmp}
use Rattle.std.specs.Prelude.{nat_eq, Option, Some, None, is_some}
use Rattle.resb_tree.specs.Maps.{get, text_cmp}
use Rattle.resb_tree.specs.Tree.{Tree, string, alias, array, table, binary, integer, int_vector}
use Rattle.resb_tree.specs.Tree.{Entries, no_entries, entry}
use Rattle.resb_filter.specs.Filtered.{Rule, below, verdict, by_verdict, entry_before, filtered}
use Rattle.resb_filter.specs.Filtered.{filtered_entries, entry_left}
use Rattle.resb_filter.specs.declared.remaining.Verdict.{Verdict}
use Rattle.resb_filter.specs.declared.remaining.Verdict.TheVariants.{Whole, Out, Partly}

mutual
  pub none_leave_all : (t : Tree) → filtered [] t ≡ t
  none_leave_all (table es) = ap table (none_leave_entries es)
  none_leave_all (string s) = refl
  none_leave_all (alias s) = refl
  none_leave_all (array ts) = refl
  none_leave_all (binary s) = refl
  none_leave_all (integer n) = refl
  none_leave_all (int_vector s) = refl

  none_leave_entries : (es : Entries) → filtered_entries [] es ≡ es
  none_leave_entries no_entries = refl
  none_leave_entries (entry k t es) = ap (entry k t) (none_leave_entries es)

-- What is filtered twice.

again_entry : (rs : List Rule) (k : List ℕ) (t : Tree) (es : Entries) (v : Verdict)
    → verdict (below k rs) ≡ v
    → filtered (below k rs) (filtered (below k rs) t) ≡ filtered (below k rs) t
    → filtered_entries rs es ≡ es
    → filtered_entries rs (entry_before k (by_verdict v t (filtered (below k rs) t)) es)
    ≡ entry_before k (by_verdict v t (filtered (below k rs) t)) es
again_entry rs k t es Whole is h g =
    (λ i. entry_before k (by_verdict (is i) t (filtered (below k rs) t)) (g i))
again_entry rs k t es Partly is h g =
    (λ i. entry_before k
    (by_verdict (is i) (filtered (below k rs) t) (h i)) (g i))
again_entry rs k t es Out is h g = g

mutual
  pub filtered_again : (rs : List Rule) (t : Tree) → filtered rs (filtered rs t) ≡ filtered rs t
  filtered_again rs (table es) = ap table (entries_again rs es)
  filtered_again rs (string s) = refl
  filtered_again rs (alias s) = refl
  filtered_again rs (array ts) = refl
  filtered_again rs (binary s) = refl
  filtered_again rs (integer n) = refl
  filtered_again rs (int_vector s) = refl

  entries_again : (rs : List Rule) (es : Entries)
      → filtered_entries rs (filtered_entries rs es) ≡ filtered_entries rs es
  entries_again rs no_entries = refl
  entries_again rs (entry k t es) =
      again_entry rs k t (filtered_entries rs es) (verdict (below k rs)) refl
      (filtered_again (below k rs) t) (entries_again rs es)

-- What stands at a key.

none_out : (v : Verdict) (t u t' u' : Tree) → by_verdict v t u ≡ None → by_verdict v t' u' ≡ None
none_out Out t u t' u' h = refl
none_out Whole t u t' u' h = absurd (false≢true (sym (ap is_some h)))
none_out Partly t u t' u' h = absurd (false≢true (sym (ap is_some h)))

then_none : (f : Tree → Option Tree) → ((t : Tree) → f t ≡ None) → (o : Option Tree)
    → option_and_then f o ≡ None
then_none f h None = refl
then_none f h (Some t) = h t

get_before : (q k : List ℕ) (o : Option Tree) (es : Entries) → eq_by_cmp text_cmp q k ≡ false
    → get q (entry_before k o es) ≡ get q es
get_before q k None es e = refl
get_before q k (Some t) es e = ap (λ b. cond b (Some t) (get q es)) e

get_own : (q k : List ℕ) (o : Option Tree) (es : Entries) → eq_by_cmp text_cmp q k ≡ true
    → (o ≡ None → get q es ≡ None) → get q (entry_before k o es) ≡ o
get_own q k None es e h = h refl
get_own q k (Some t) es e h = ap (λ b. cond b (Some t) (get q es)) e

same_key : (q k : List ℕ) → eq_by_cmp text_cmp q k ≡ true → q ≡ k
same_key q k e =
    (slice_eq-Decides Decides-eqb q k (pointwise nat_eq q k) refl).0 (texts_ties q k ∙ e)

left_at : (rs : List Rule) (q k : List ℕ) (t : Tree) (es : Entries) (b : Bool)
    → eq_by_cmp text_cmp q k ≡ b
    → get q (filtered_entries rs es) ≡ option_and_then (entry_left rs q) (get q es)
    → get q (filtered_entries rs (entry k t es))
    ≡ option_and_then (entry_left rs q) (get q (entry k t es))
left_at rs q k t es false e h =
    get_before q k (entry_left rs k t) (filtered_entries rs es) e ∙ h
    ∙ ap (λ c. option_and_then (entry_left rs q) (cond c (Some t) (get q es))) (sym e)
left_at rs q k t es true e h =
    get_own q k (entry_left rs k t) (filtered_entries rs es) e
    (λ none. h ∙ then_none (entry_left rs q) (λ u. none_out (verdict (below q rs)) t
    (filtered (below q rs) t) u (filtered (below q rs) u)
    (ap (λ l. entry_left rs l t) (same_key q k e) ∙ none)) (get q es))
    ∙ ap (λ l. entry_left rs l t) (sym (same_key q k e))
    ∙ ap (λ c. option_and_then (entry_left rs q) (cond c (Some t) (get q es))) (sym e)

-- what is left at a key is what the rules leave of what stood there
pub left_at_key : (rs : List Rule) (q : List ℕ) (es : Entries)
    → get q (filtered_entries rs es) ≡ option_and_then (entry_left rs q) (get q es)
left_at_key rs q no_entries = refl
left_at_key rs q (entry k t es) =
    left_at rs q k t es (eq_by_cmp text_cmp q k) refl (left_at_key rs q es)

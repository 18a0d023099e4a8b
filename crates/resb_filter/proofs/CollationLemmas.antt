-- Types' forms, and a type's table with its form.
use Rattle.std.proofs.Common.{◌≡◌, ℕ, ◌+◌, ◌<◌, Bool, true, false, List, [], ◌∷◌, ◌++◌, Bor, map}
use Rattle.std.proofs.Common.{cond, drop, get_or, length}
use Rattle.std.proofs.Common.{refl, sym, ap, ◌∙◌, subst}
use Rattle.std.specs.Prelude.{Option, Some, codes, option_map}
use Rattle.std.specs.List.Sorted.{IsStrictlySortedBy}
use Rattle.std.proofs.lemmas.Bool.{and_from}
use Rattle.std.proofs.lemmas.List.{drop_more, map-append}
use Rattle.indexmap.specs.IndexMap.{IndexMap, get_by}
use Rattle.resb_tree.specs.Keys.{same_text}
use Rattle.resb_tree.specs.Borrowing.{all_true}
use Rattle.resb_tree.specs.Maps.{text_cmp}
use Rattle.resb_tree.specs.Tree.{Tree, table, binary, Entries, no_entries, put, put_all, map_of}
use Rattle.resb_tree.proofs.MapsLemmas.{map_of-sorted}
use Rattle.resb_draft.specs.Drafts.{tree_at, is_whole, IsMade, Keeps}
use Rattle.resb_draft.specs.declared.draft.Draft.{Draft}
use Rattle.resb_draft.proofs.EntriesLemmas.{texts_sorted}
use Rattle.resb_draft.proofs.Lists.{all_append}
use Rattle.resb_filter.specs.Collated.{form_of, with_form}
use Rattle.resb_filter.specs.Inner.Forms.{form_in}
use Rattle.resb_filter.specs.View.{forms_view}
use Rattle.resb_filter.specs.declared.collation.CollationForm.{CollationForm}
use Rattle.resb_filter.specs.Inner.Entries.{seen, AreEntries}
use Rattle.resb_filter.proofs.TableLemmas.{entries_on, seen_keys}

form_cases : (b : Bool) (form : Bor (List ℕ)) (o : Option (Bor (List ℕ)))
    → option_map (λ (f : Bor (List ℕ)). f.now) (cond b (Some form) o)
    ≡ cond b (Some form.now) (option_map (λ (f : Bor (List ℕ)). f.now) o)
form_cases true form o = refl
form_cases false form o = refl

-- a form before those of which a map has the first of each type
pub form_before : {H : Type 0} (m new : IndexMap (Bor (List ℕ)) (Bor (List ℕ)) H)
    (fs : List CollationForm) (i : ℕ) (x : CollationForm) → i < length fs
    → ((k : List ℕ) → form_in m k ≡ form_of (forms_view (drop (i + 1) fs)) k)
    → ((k : List ℕ) → get_by (λ j. same_text k j.now) new
    ≡ cond (same_text (get_or fs i x).key.now k) (Some (get_or fs i x).bytes)
    (get_by (λ j. same_text k j.now) m))
    → (k : List ℕ) → form_in new k ≡ form_of (forms_view (drop i fs)) k
form_before m new fs i x lt before updated k =
    let f = get_or fs i x in
    let is = same_text f.key.now k in
    ap (option_map (λ (b : Bor (List ℕ)). b.now)) (updated k)
    ∙ form_cases is f.bytes (get_by (λ j. same_text k j.now) m)
    ∙ ap (cond is (Some f.bytes.now)) (before k)
    ∙ ap (λ l. form_of (forms_view l) k) (sym (drop_more fs i x lt))

put_last : (es : Entries) (ps : List (List ℕ × Tree)) (p : List ℕ × Tree)
    → put_all es (ps ++ p ∷ []) ≡ put p.0 p.1 (put_all es ps)
put_last es [] p = refl
put_last es (q ∷ ps) p = put_last (put q.0 q.1 es) ps p

-- the table of a type's entries and its form
pub formed : (d e : Draft) (n : ℕ) (es new : List (Bor (List ℕ) × ℕ)) (k : Bor (List ℕ))
    (leaf : ℕ) (form : List ℕ) → AreEntries d n es → Keeps d e → IsMade e leaf (binary form)
    → k.now ≡ codes "%%CollationBin" → new ≡ es ++ (k, leaf) ∷ []
    → (table (map_of (seen (tree_at e) new)) ≡ with_form (Some form) (tree_at d n))
    × (all_true (map (λ (p : Bor (List ℕ) × ℕ). is_whole e p.1) new) ≡ true)
formed d e n es new k leaf form a keeps made named is =
    let on = entries_on d e keeps es a.whole in
    let show : Bor (List ℕ) × ℕ → List ℕ × Tree = λ p. (p.0.now, tree_at e p.1) in
    let before = seen (tree_at d) es in
    let sorted = subst (IsStrictlySortedBy text_cmp) (sym (seen_keys (tree_at d) es))
    (texts_sorted (map (λ (p : Bor (List ℕ) × ℕ). p.0.now) es) a.ascend) in (
      ap (λ ps. table (map_of (seen (tree_at e) ps))) is
          ∙ ap (λ ps. table (map_of ps)) (map-append show es ((k, leaf) ∷ []))
          ∙ (λ i. table (map_of (on.0 i ++ (named i, made.0 i) ∷ [])))
          ∙ ap table (put_last no_entries before (codes "%%CollationBin", binary form))
          ∙ ap (λ ps. table (put (codes "%%CollationBin") (binary form) ps))
          (map_of-sorted before sorted)
          ∙ ap (with_form (Some form)) (sym a.tree),
      ap (λ ps. all_true (map (λ (p : Bor (List ℕ) × ℕ). is_whole e p.1) ps)) is
          ∙ ap all_true (map-append (λ (p : Bor (List ℕ) × ℕ). is_whole e p.1) es
          ((k, leaf) ∷ []))
          ∙ all_append (map (λ (p : Bor (List ℕ) × ℕ). is_whole e p.1) es)
          (is_whole e leaf ∷ []) on.1 (and_from _ _ made.1 refl),
    )

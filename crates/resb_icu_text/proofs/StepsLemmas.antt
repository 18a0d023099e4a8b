-- How each step of a reading goes on, and where a reading stops.
use Rattle.std.proofs.Common.{◌≡◌, ℕ, ◌+◌, ◌*◌, ◌<◌, ◌≤◌, true, false, List, [], ◌∷◌, ◌++◌}
use Rattle.std.proofs.Common.{Vec, length, arith, Bor, Global, refl, sym, ◌∙◌, ap, subst}
use Rattle.std.proofs.lemmas.Bool.{false≢true, and_from}
use Rattle.std.proofs.lemmas.List.{map-append}
use Rattle.std.specs.Cow.{cow_str_bytes}
use Rattle.std.specs.Prelude.{slice_index, map, ◌==◌, Result, Ok, Err, MatchResult}
use Rattle.std.proofs.lemmas.Bool.Decides.{nat_tests}
use Rattle.std.specs.declared.borrow.CowStr.{CowStr}
use Rattle.resb_grammar.specs.Ascii as ascii
use Rattle.resb_tree.specs.Borrowing as borrowing
use Rattle.resb_tree.specs.Tree.{Tree, string}
use Rattle.resb_tree.specs.View.{tree_of}
use Rattle.resb_tree.specs.Weights.{text_byte_weight}
use Rattle.resb_grammar.specs.declared.limit.Weights.{Weights}
use Rattle.resb_tree.specs.declared.resource.Resource.{String}
use Rattle.resb_tree.proofs.ViewLemmas.{tree_of_string}
use Rattle.resb_draft.specs.Drafts.{is_leaf}
use Rattle.resb_icu_grammar.specs.declared.group_kind.IcuKind.{IcuKind as Kind}
use Rattle.resb_icu_grammar.specs.Blanks.{Skip}
use Rattle.resb_icu_grammar.specs.Limit.{key_bytes, next_key_bytes, joining_bytes}
use Rattle.resb_icu_grammar.specs.Words.{Text, KeyText, GroupType}
use Rattle.resb_icu_grammar.specs.Groups.{a_string, a_group, ends_in_string, TypedOpening}
use Rattle.resb_icu_grammar.specs.Groups.{LeafContent, string_content, alias_content}
use Rattle.resb_icu_grammar.specs.Groups.{binary_content, integer_content, no_numbers, numbers}
use Rattle.resb_icu_grammar.specs.Machine.{Waiting, Standing, reading_at, among_members}
use Rattle.resb_icu_grammar.specs.Machine.{among_entries, behind_group, in_untyped, before_group}
use Rattle.resb_icu_grammar.specs.Machine as move
use Rattle.resb_icu_grammar.specs.Stuck.{StepStuck, inside, TypeStuck}
use Rattle.resb_icu_grammar.specs.Faults.{Told}
use Rattle.resb_icu_grammar.specs.Stuck as stuck
use Rattle.resb_icu_grammar.specs.declared.expected.IcuExpected.{IcuExpected}
use Rattle.resb_icu_grammar.proofs.Blocked.{is_vector}
use Rattle.resb_icu_grammar.proofs.Faults.{string_told}
use Rattle.resb_icu_grammar.proofs.Lexical.{String-one, key_string}
use Rattle.resb_icu_grammar.proofs.Groups.{Closes}
use Rattle.resb_icu_text.specs.Refusal.{want_of_memory}
use Rattle.resb_icu_text.specs.declared.strings.Found.{Found}
use Rattle.resb_icu_text.specs.declared.quota.Quota.{Quota}
use Rattle.resb_icu_text.specs.declared.error.IcuTextError.{IcuTextError}
use Rattle.resb_icu_text.specs.declared.steps.Last.{Last}
use Rattle.resb_icu_text.specs.declared.steps.Last.TheVariants as last
use Rattle.resb_icu_text.specs.declared.steps.Waiting.TheVariants as waiting
use Rattle.resb_icu_text.specs.declared.steps.Step.TheVariants as step
use Rattle.resb_icu_text.specs.declared.steps.Read.{Read}
use Rattle.resb_icu_text.specs.declared.steps.Read.TheVariants as read
use Rattle.resb_icu_text.specs.Inner.Ahead.{KeyFails}
use Rattle.resb_icu_text.specs.Inner.Found.{IsFound, Shows, fits_key, is_whole}
use Rattle.resb_icu_text.specs.Inner.Build.{pairs_by}
use Rattle.resb_icu_text.specs.Inner.Kept.{members_pass, read_passes, Keeps}
use Rattle.resb_icu_text.specs.Inner.Quota.{TakesBytes, GoesOn, StopsAt}
use Rattle.resb_icu_text.specs.Inner.Steps.{last_of, read_now, Place, StepsTo, StepFails, has_leaf}
use Rattle.resb_icu_text.specs.Inner.Steps.{Ends, Goes, members_place, group_place, untyped_place}
use Rattle.resb_icu_text.specs.Inner.Steps.{KeyAhead, Resumes}
use Rattle.resb_icu_text.proofs.KeptLemmas.{said_kept, members_with, entries_with}
use Rattle.resb_icu_text.proofs.QuotaLemmas.{by_move, by_step_out, memory_stops, stuck_stops}

-- what was found may be a key, and is this
abbrev pub IsKey : Found → Bor (List ℕ) → Type 0
IsKey f k = (fits_key f.stands ≡ true)
    × ((text said : List ℕ) (from : ℕ) → Shows text from f.end said f.stands → k.now ≡ said)

pub is_a_key : (text : List ℕ) (at : ℕ) (f : Found) (k : Bor (List ℕ)) → IsFound text at f
    → IsKey f k → KeyText text at f.end k.now
is_a_key text at f k is e =
    subst (λ (s : List ℕ). KeyText text at f.end s) (sym (e.1 text is.said at is.shows))
    (is.key.0 e.0)

-- and the blanks behind it
pub key_ahead : (text : List ℕ) (at : ℕ) (f : Found) (k : Bor (List ℕ)) → IsFound text at f
    → IsKey f k → KeyAhead text at f.next k.now
key_ahead text at f k is e = record {
  to = f.end;
  stands = is_a_key text at f k is e;
  after = is.blanks;
  order = omega (arith, is.after, is.order);
  fits = is.fits;
  short = omega (arith, ap length (e.1 text is.said at is.shows), is.short, is.order);
  here = is.here;
}

-- where a string may be no key, no key stands
pub no_key : (text : List ℕ) (at : ℕ) (f : Found) → IsFound text at f → fits_key f.stands ≡ false
    → (to : ℕ) (k : List ℕ) → KeyText text at to k → ⊥
no_key text at f is n to k p =
    let same = String-one text at to f.end k is.said (key_string text at to k p) is.string in
    false≢true (sym n ∙ is.key.1 (subst (λ i. KeyText text at i is.said) same.0
    (subst (λ s. KeyText text at to s) same.1 p)))

-- where a string may be no key, what was expected is told
pub unfit_key : (text : List ℕ) (at : ℕ) (x : IcuExpected) (f : Found) (e : IcuTextError)
    → e ≡ record { position = at; expected = x } → IsFound text at f
    → fits_key f.stands ≡ false → KeyFails text at x e
unfit_key text at x f e h is n = (
  no_key text at f is n,
  subst (λ (f : IcuTextError). Told text at x f.position f.expected)
      (sym h) (string_told text at f.end is.said x is.string),
)

-- an error at this place, where this was expected
abbrev pub Says : ℕ → IcuExpected → IcuTextError → Type 0
Says at x e = e ≡ record { position = at; expected = x }

-- the content of a group without items has nothing inside
pub content_leaf : (text : List ℕ) (from to : ℕ) (kind : Kind) (t : Tree)
    → LeafContent text from to kind t → is_leaf t ≡ true
content_leaf text from to _ _ (string_content i s p k) = refl
content_leaf text from to _ _ (alias_content i s p k) = refl
content_leaf text from to _ _ (binary_content i s bytes p h k) = refl
content_leaf text from to _ _ (integer_content i v p k) = refl
content_leaf text from to _ _ (no_numbers e) = refl
content_leaf text from to _ _ (numbers ns p) = refl

-- nor has a string
string_leaf : (x : CowStr Global) → is_leaf (tree_of (String x)) ≡ true
string_leaf x = ap is_leaf (tree_of_string x)

-- the text that was made of a string that was found there
pub record IsText (text : List ℕ) (at : ℕ) (f : Found) (x : CowStr Global) : Type 0 where
  pub found : IsFound text at f
  pub bytes : cow_str_bytes x ≡ found.said
  pub slice : borrowing.is_slice x ≡ is_whole f.stands

pub text_made : {text : List ℕ} {at : ℕ} {f : Found} {x : CowStr Global} → IsFound text at f
    → (borrowing.is_slice x ≡ is_whole f.stands)
    × ((is : IsFound text at f) → cow_str_bytes x ≡ is.said)
    → IsText text at f x
text_made is h = record { found = is; bytes = h.1 is; slice = h.0 }

-- it is a string
tree_made : {text : List ℕ} {at : ℕ} {f : Found} {x : CowStr Global} → (h : IsText text at f x)
    → string h.found.said ≡ tree_of (String x)
tree_made {x = x} h = sym (tree_of_string x ∙ ap string h.bytes)

module _ {X : Type 0} {text : List ℕ} {p q : Quota} where
  -- where a reading is stuck that has taken nothing
  pub fails_at : (s : (X → Tree) → Standing) (at to : ℕ) (x : IcuExpected) (e : IcuTextError)
      → TakesBytes p q 0 → Says to x e
      → ((tree : X → Tree) → is_vector (s tree) ≡ false)
      → ((tree : X → Tree) → StepStuck text (s tree) at to x)
      → (tree : X → Tree) (ws : List Waiting) (ks : List (List ℕ))
      → StopsAt text p q (reading_at ws ks (s tree) at) e
  fails_at s at to x e t h v b tree ws ks =
      stuck_stops (reading_at ws ks (s tree) at) e t
      (subst (λ (f : IcuTextError). stuck.ReadStuck text (reading_at ws ks (s tree) at)
      f.position f.expected) (sym h) (inside ws ks (s tree) at to x (b tree)))
      (λ is. absurd (false≢true (sym (v tree) ∙ is)))

  -- where a reading is stuck that lacks a string or a key, and what is told in its place
  pub told_at : (s : (X → Tree) → Standing) (at : ℕ) (x : IcuExpected) (e : IcuTextError)
      (P : Type 0) → TakesBytes p q 0
      → ((tree : X → Tree) → is_vector (s tree) ≡ false)
      → ((tree : X → Tree) → P → Told text at x e.position e.expected
      → StepStuck text (s tree) at e.position e.expected)
      → P × Told text at x e.position e.expected
      → (tree : X → Tree) (ws : List Waiting) (ks : List (List ℕ))
      → StopsAt text p q (reading_at ws ks (s tree) at) e
  told_at s at x e P t v f h =
      fails_at s at e.position e.expected e t refl v (λ tree. f tree h.0 h.1)

  -- memory is wanted
  pub lacks : {k : ℕ} (place : Place X) (e : IcuTextError) → TakesBytes p q k
      → e ≡ want_of_memory → StepFails text place p q e
  lacks place e t h tree ws ks = memory_stops (place.there tree ws ks) e t h

  -- a `:` without a type
  pub no_type : (at : ℕ) (e : IcuTextError) → TakesBytes p q 0
      → (e.position ≡ at) × TypeStuck text at e.expected
      → slice_index text at ≡ ascii.colon → StepFails text (group_place X at) p q e
  no_type at e t s c =
      fails_at (λ tree. before_group) at at _ e t
      (ap (λ k. record { position = k; expected = e.expected }) s.0) (λ tree. refl)
      (λ tree. stuck.no_type at e.expected c s.1)

  -- a reading steps to where it has read this
  pub step_to : {place : Place X} {r : Read X} → has_leaf r ≡ true → Ends text r
      → ((tree : X → Tree) (ws : List Waiting) (ks : List (List ℕ))
      → GoesOn text p q (place.there tree ws ks) (read_now tree ws ks r))
      → Keeps text place.passes (read_passes r) → Goes text place.progress r
      → StepsTo text place p q r
  step_to l e c k g = record { leaf = l; ends = e; comes = c; keeps = k; goes = g }

  -- a string that is a member
  pub member_string : {k : ℕ} (v : Vec X Global) (l : Last) (at : ℕ) (f : Found) (x : CowStr Global)
      → TakesBytes p q k → ((s : List ℕ) → (t : Text text at f.end s)
      → k ≡ p.weights.group + (text_byte_weight * length s + joining_bytes t))
      → ends_in_string (last_of l) ≡ false → IsText text at f x
      → StepsTo text (members_place v.items l at) p q (read.Member v (String x) f.next)
  member_string v l at f x t sum e h =
      step_to (string_leaf x) tt (λ tree ws ks. subst (λ (t : Tree). GoesOn text p q
      ((members_place v.items l at).there tree ws ks)
      (reading_at ws ks (among_members a_string (map tree v.items ++ t ∷ [])) f.next))
      (tree_made h)
      (by_move ws ks _ at _
      (move.string_member (last_of l) (map tree v.items) at f.end f.next h.found.said e
      h.found.string h.found.blanks) (omega (arith, sum h.found.said h.found.string)) t))
      (λ pass test p k. and_from _ _ k
      (said_kept text at f x h.found h.bytes h.slice test p))
      (h.found.fits, omega (arith, h.found.after, h.found.order))

  -- one string in a group without a type
  pub untyped_one : {k : ℕ} (at : ℕ) (f : Found) (x : CowStr Global)
      → TakesBytes p q k → ((s : List ℕ) → (t : Text text at f.end s)
      → k ≡ text_byte_weight * length s + joining_bytes t)
      → f.next < length text → Closes text f.next → IsText text at f x
      → StepsTo text (untyped_place X at) p q (read.Leaf (String x) (f.next + 1))
  untyped_one at f x t sum low c h =
      step_to (string_leaf x) tt (λ tree ws ks. subst (λ (t : Tree). GoesOn text p q
      (reading_at ws ks in_untyped at)
      (reading_at ws ks (behind_group t) (f.next + 1))) (tree_made h)
      (by_move ws ks _ at _
      (move.untyped_string at f.end f.next h.found.said h.found.string h.found.blanks c)
      (omega (arith, sum h.found.said h.found.string)) t))
      (λ pass test p k. said_kept text at f x h.found h.bytes h.slice test p)
      (omega (arith, low), omega (arith, h.found.after, h.found.order))

  -- a string and a comma in a group without a type
  pub untyped_comma : {k : ℕ} (v : Vec X Global) (at : ℕ) (f : Found) (x : CowStr Global)
      → TakesBytes p q k → ((s : List ℕ) → (t : Text text at f.end s)
      → k ≡ p.weights.group + (text_byte_weight * length s + joining_bytes t))
      → slice_index text f.next ≡ ascii.comma → IsText text at f x → v.items ≡ []
      → StepsTo text (untyped_place X at) p q (read.Member v (String x) f.next)
  untyped_comma v at f x t sum c h e =
      step_to (string_leaf x) tt (λ tree ws ks. subst (λ ts. GoesOn text p q
      (reading_at ws ks in_untyped at)
      (reading_at ws ks (among_members a_string ts) f.next))
      (sym (ap (λ l. map tree l ++ tree_of (String x) ∷ []) e
      ∙ ap (λ t. t ∷ []) (sym (tree_made h))))
      (by_move ws ks _ at _
      (move.begins_with_string at f.end f.next h.found.said h.found.string h.found.blanks c)
      (omega (arith, sum h.found.said h.found.string)) t))
      (λ pass test p k. and_from _ _ (ap (λ l. members_pass l pass test) e)
      (said_kept text at f x h.found h.bytes h.slice test p))
      (h.found.fits, omega (arith, h.found.after, h.found.order))

module _ {X : Type 0} {text : List ℕ} {p o : Quota} where
  -- what is answered inside a group is answered before it, from where a step leads there
  pub entered : (q : Quota) (a b : Place X) (r : Result (Read X) IcuTextError)
      → ((tree : X → Tree) (ws : List Waiting) (ks : List (List ℕ))
      → GoesOn text p o (a.there tree ws ks) (b.there tree ws ks))
      → ((pass : _) (test : _) → b.passes pass test ≡ true) → a.progress ≤ b.progress
      → MatchResult r (StepsTo text b o q) (StepFails text b o q)
      → MatchResult r (StepsTo text a p q) (StepFails text a p q)
  entered q a b (Ok r) f keeps less s =
      step_to s.leaf s.ends (λ tree ws ks limit at. s.comes tree ws ks limit
      (f tree ws ks limit at)) (λ pass test p h. s.keeps pass test p (keeps pass test))
      (s.goes.0, omega (arith, s.goes.1, less))
  entered q a b (Err e) f keeps less s =
      λ tree ws ks limit at. s tree ws ks limit (f tree ws ks limit at)

-- a type and its `{`
pub opening_there : (text : List ℕ) (at end brace i : ℕ) (kind : Kind) → GroupType text at end kind
    → Skip text end brace → slice_index text brace ≡ ascii.left_brace → Skip text (brace + 1) i
    → TypedOpening text at kind i
opening_there text at end brace i kind g k o s = record {
  ends = end;
  brace = brace;
  named = g;
  between = k;
  opens = o;
  after = s;
}

-- behind a group that is a member
pub behind_member : {X : Type 0} (text : List ℕ) (old v : Vec X Global) (x : X) (at next : ℕ)
    → Skip text at next → at ≤ next → next ≤ length text → v.items ≡ old.items ++ x ∷ []
    → Resumes text (waiting.Array old) x at (step.Members v last.Group next)
behind_member text old v x at next k order fits e = record {
  comes = λ tree ws ks q. subst (λ ts. GoesOn text q q
      (reading_at (move.in_array (map tree old.items) ∷ ws) ks (behind_group (tree x)) at)
      (reading_at ws ks (among_members a_group ts) next))
      (sym (ap (map tree) e ∙ map-append tree old.items (x ∷ [])))
      (by_step_out text q _ ks (tree x) at _
      (move.was_member ws (map tree old.items) next k));
  keeps = λ pass test h j. members_with pass test v.items old.items x e h j;
  within = fits;
  goes = omega (arith, order);
}

-- behind a group that is the value of an entry
pub behind_value : {X : Type 0} (text : List ℕ) (old v : Vec (Bor (List ℕ) × X) Global)
    (key : Bor (List ℕ)) (x : X) (at next : ℕ)
    → Skip text at next → at ≤ next → next ≤ length text → v.items ≡ old.items ++ (key, x) ∷ []
    → Resumes text (waiting.Table old key) x at (step.Entries v next)
behind_value text old v key x at next k order fits e = record {
  comes = λ tree ws ks q. subst (λ es. GoesOn text q q
      (reading_at (move.in_table (pairs_by tree old.items) key.now ∷ ws) ks
      (behind_group (tree x)) at)
      (reading_at ws ks (among_entries es) next))
      (sym (ap (pairs_by tree) e
      ∙ map-append (λ p. (p.0.now, tree p.1)) old.items ((key, x) ∷ [])))
      (by_step_out text q _ ks (tree x) at _
      (move.was_value ws (pairs_by tree old.items) key.now next k));
  keeps = λ pass test h j. entries_with pass test v.items old.items key x e h j;
  within = fits;
  goes = omega (arith, order);
}

-- the first key of a table makes the table as well
pub first_key_bytes : {X : Type 0} (w : Weights) (tree : X → Tree)
    (es : List (Bor (List ℕ) × X)) (k : List ℕ) (n : ℕ) → (length es == 0) ≡ true
    → n ≡ w.table + key_bytes w k → n ≡ next_key_bytes w (pairs_by tree es) k
first_key_bytes w tree [] k n e h = h
first_key_bytes w tree (x ∷ es) k n e h = absurd (grind (arith, nat_tests, e))

-- another key doesn't
pub later_key_bytes : {X : Type 0} (w : Weights) (tree : X → Tree)
    (es : List (Bor (List ℕ) × X)) (k : List ℕ) (n : ℕ) → (length es == 0) ≡ false
    → n ≡ key_bytes w k → n ≡ next_key_bytes w (pairs_by tree es) k
later_key_bytes w tree [] k n e h = absurd (grind (arith, nat_tests, e))
later_key_bytes w tree (x ∷ es) k n e h = h

-- what a key makes
pub ruleset keys_make = (first_key_bytes, later_key_bytes)

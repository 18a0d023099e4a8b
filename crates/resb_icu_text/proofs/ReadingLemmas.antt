-- What is open around a place, what stands before the root, and where a reading of a text stops.
use Rattle.resb_icu_text.proofs.ReachLemmas.{reach_low, reach_high}
use Rattle.std.proofs.Common.{◌≡◌, ◌≢◌, ◌&&◌, ℕ, ◌+◌, ◌*◌, ◌≤◌, ◌<◌, Bool, true, false, List, []}
use Rattle.std.proofs.Common.{◌∷◌, ◌++◌, refl, sym, ◌∙◌, ap, subst, arith, length, get_or, Bor, ◌⊎◌}
use Rattle.std.proofs.Common.{inl, inr, ⊎_elim, slice_index, map, take, nat_eq, ◌==◌, Result, Ok}
use Rattle.std.proofs.Common.{Err, IfErr, MatchResult}
use Rattle.std.specs.Cmp.Lexicographic.{pointwise}
use Rattle.std.proofs.lemmas.Bool.Decides.{nat_tests}
use Rattle.indexmap.specs.IndexSet.{insert_key}
use Rattle.resb_grammar.proofs.KeyPlaces.{first_places-snoc}
use Rattle.std.proofs.lemmas.List.{map-append, take_more, length-append}
use Rattle.resb_grammar.specs.Ascii as ascii
use Rattle.resb_grammar.specs.BundleText.{first_places}
use Rattle.resb_grammar.specs.ByteRuns.{Run}
use Rattle.resb_grammar.proofs.ByteRunsLemmas.{Run-one}
use Rattle.resb_tree.specs.Tree.{Tree}
use Rattle.resb_icu_grammar.specs.Bytes.{is_word}
use Rattle.resb_icu_grammar.specs.Blanks.{Begins, Skip}
use Rattle.resb_icu_grammar.specs.Bundle.{Header, Typing, without, with, IcuText}
use Rattle.resb_icu_grammar.specs.Words.{KeyText, Name}
use Rattle.resb_icu_grammar.specs.Machine.{at_root, Waiting, Reading, reading_at, behind_group}
use Rattle.resb_icu_grammar.specs.Machine.{before_group}
use Rattle.resb_icu_grammar.specs.Limit.{IcuMadeWithin, IcuMakesMore, by_the_root}
use Rattle.resb_icu_grammar.proofs.Blocked.{root_makes, header_never_more, whole_text}
use Rattle.resb_icu_grammar.specs.Stuck.{HeaderStuck, ReadStuck, in_header, no_root_type}
use Rattle.resb_icu_grammar.specs.Stuck.{no_root_brace, no_typed_brace, behind, more_text}
use Rattle.resb_icu_grammar.specs.Faults.{Told}
use Rattle.resb_icu_grammar.specs.Stuck as stuck
use Rattle.resb_icu_grammar.specs.declared.expected.IcuExpected.{IcuExpected}
use Rattle.resb_icu_grammar.specs.declared.expected.IcuExpected.TheVariants as expect
use Rattle.resb_icu_grammar.proofs.Faults.{string_told}
use Rattle.resb_icu_grammar.proofs.Lexical.{String-one, key_string}
use Rattle.resb_icu_grammar.proofs.Refused.{stuck_is_no_text}
use Rattle.resb_icu_text.specs.Answer.{IcuFails, IsNoIcuText, IcuNeverMore}
use Rattle.resb_icu_text.specs.Refusal.{want_of_memory}
use Rattle.resb_icu_text.specs.declared.error.IcuTextError.{IcuTextError}
use Rattle.resb_icu_text.specs.Inner.Ahead.{KeyFails}
use Rattle.resb_icu_text.specs.Inner.Behind.{HasBarred, HasNoBarred}
use Rattle.resb_icu_text.specs.Inner.Steps.{shown, with_key, now, Resumes, Place, StepsTo}
use Rattle.resb_icu_text.specs.Inner.Steps.{group_place, read_now}
use Rattle.resb_icu_text.specs.declared.steps.Waiting.{Waiting as Open}
use Rattle.resb_icu_text.specs.declared.steps.Waiting.TheVariants as waiting
use Rattle.resb_icu_text.specs.Inner.Reading.{IsWhole, groups, keys, stands, IsRead, around}
use Rattle.resb_icu_text.specs.Inner.Reading.{NameFails, TypingThere, no_colon, a_type}
use Rattle.resb_icu_text.specs.Inner.Reading.{OpeningFails, no_type, no_brace, HeaderFails}
use Rattle.resb_icu_text.specs.Inner.Reading.{RootThere}
use Rattle.resb_icu_text.specs.Inner.Quota.{TakesBytes, RunsOver, IsAt, GoesOn, IsStuck, Stops}
use Rattle.resb_icu_text.specs.Inner.Quota.{StopsAt, limit_of}
use Rattle.resb_icu_text.specs.declared.quota.Quota.{Quota}
use Rattle.resb_icu_text.proofs.QuotaLemmas.{none_taken, memory_stops, stuck_stops}
use Rattle.std.proofs.lemmas.Bool.{false≢true, and_from, and_parts}
use Rattle.resb_tree.specs.Borrowing.{all_true}
use Rattle.resb_icu_text.specs.Inner.Kept.{Test, Passing, IsKept, groups_pass, open_passes}
use Rattle.resb_icu_text.specs.declared.open.OpenGroups.{OpenGroups}
use Rattle.resb_icu_text.specs.declared.steps.Read.{Read}
use Rattle.resb_grammar.specs.declared.limit.Limit.{Limit}
use Rattle.resb_icu_text.specs.declared.steps.Step.{Step}
use Rattle.resb_icu_text.specs.declared.steps.Step.TheVariants as step

-- one group more is the innermost
pub around_push : {X : Type 0} (tree : X → Tree) (ws : List Waiting) (os : List (Open X))
    (o : Open X) → around tree ws (os ++ o ∷ []) ≡ shown tree o ∷ around tree ws os
around_push tree ws [] o = refl
around_push tree ws (p ∷ os) o = around_push tree (shown tree p ∷ ws) os o

name_is : (text : List ℕ) (at to end : ℕ) (k name : List ℕ) → KeyText text at to k
    → Name text at end name → name ≡ k
name_is text at to end k name p n =
    (String-one text at end to name k (key_string text at end name n.key)
    (key_string text at to k p)).1

-- no name stands where no key does
pub no_name : (text : List ℕ) (at : ℕ) (e : IcuTextError) → KeyFails text at expect.Name e
    → NameFails text at e
no_name text at e n = (λ end name w. n.0 end name w.key, n.1)

-- where a key is no name, the name is told
pub unfit_name : (text : List ℕ) (at to : ℕ) (k : List ℕ) (e : IcuTextError)
    → e ≡ record { position = at; expected = expect.Name } → KeyText text at to k
    → ((end : ℕ) (name : List ℕ) → Name text at end name → ⊥) → NameFails text at e
unfit_name text at to k e h p f = (
  f,
  subst (λ (g : IcuTextError). Told text at expect.Name g.position g.expected) (sym h)
      (string_told text at to k expect.Name (key_string text at to k p)),
)

-- an empty key is no name
pub empty_name : (text : List ℕ) (at to : ℕ) (k : List ℕ) → KeyText text at to k
    → (length k == 0) ≡ true → (end : ℕ) (name : List ℕ) → Name text at end name → ⊥
empty_name text at to k p e end name n =
    let none : length k ≡ 0 = grind (arith, nat_tests) in
    let same : length name ≡ length k = ap length (name_is text at to end k name p n) in
    absurd (omega (arith, n.some, none, same))

-- nor is one with other bytes than those of words
pub broken_name : (text : List ℕ) (at to stop : ℕ) (k : List ℕ) → KeyText text at to k
    → Run is_word k 0 stop → stop < length k → (end : ℕ) (name : List ℕ)
    → Name text at end name → ⊥
broken_name text at to stop k p r w end name n =
    let whole : Run is_word k 0 (length k) =
    subst (λ s. Run is_word s 0 (length s)) (name_is text at to end k name p n) n.word in
    let same : stop ≡ length k = Run-one is_word k 0 stop (length k) r whole in
    absurd (omega (arith, w, same))

-- a key of bytes of words is a name
pub whole_name : (text : List ℕ) (at to end : ℕ) (k : List ℕ) → KeyText text at to k
    → (length k == 0) ≡ false → Run is_word k 0 end → length k ≤ end → Name text at to k
whole_name text at to end k p e r w =
    let some : length k ≢ 0 = grind (arith, nat_tests) in
    record {
      key = p;
      some = omega (arith, some);
      word = subst (λ n. Run is_word k 0 n) (omega (arith, w, r.fits)) r;
    }

-- what the form says of the root's type
pub typing_of : (text : List ℕ) (from to : ℕ) (f : Bool) → TypingThere text from to f
    → Typing text from to f
typing_of text from to _ (no_colon n e) = without (sym e)
typing_of text from to f (a_type i _ r k) = with i f r k

header_says : (text : List ℕ) (to : ℕ) (x : IcuExpected) (e : IcuTextError)
    → e ≡ record { position = to; expected = x } → HeaderStuck text to x
    → HeaderFails text e
header_says text to x e h s =
    subst (λ (g : IcuTextError). HeaderStuck text g.position g.expected) (sym h) s

-- where no name stands, a reading stops before the first entry
pub no_header_name : (text : List ℕ) (a start : ℕ) (e : IcuTextError) → Begins text a
    → Skip text a start → NameFails text start e → HeaderFails text e
no_header_name text a start e b k n = stuck.no_name a start e.position e.expected b k n.0 n.1

no_opening_brace : (text : List ℕ) (a start end at brace : ℕ) (name : List ℕ) (f : Bool)
    → Begins text a → Skip text a start → Name text start end name → Skip text end at
    → TypingThere text at brace f → slice_index text brace ≢ ascii.left_brace
    → HeaderStuck text brace expect.LeftBrace
no_opening_brace text a start end at brace name _ b k n l (no_colon c e) d =
    subst (λ i. HeaderStuck text i expect.LeftBrace) (sym e)
    (no_root_brace a start end at name b k n l c
    (λ h. d (ap (λ i. slice_index text i) e ∙ h)))
no_opening_brace text a start end at brace name f b k n l (a_type i _ r m) d =
    no_typed_brace a start end at i brace name f b k n l r m d

-- nor where the root doesn't begin
pub no_header_opening : (text : List ℕ) (a start end at : ℕ) (name : List ℕ) (e : IcuTextError)
    → Begins text a → Skip text a start → Name text start end name → Skip text end at
    → OpeningFails text at e → HeaderFails text e
no_header_opening text a start end at name e b k n l (no_type c f h) =
    header_says text at expect.RootType e h (no_root_type a start end at name b k n l c f)
no_header_opening text a start end at name e b k n l (no_brace brace f t d h) =
    header_says text brace expect.LeftBrace e h
    (no_opening_brace text a start end at brace name f b k n l t d)

-- at most one key is listed more
pub with_key_length : {X : Type 0} (ks : List (List ℕ)) (o : Open X)
    → length (with_key ks o) ≤ length ks + 1
with_key_length ks (waiting.Array members) = omega arith
with_key_length ks (waiting.Table entries key) =
    omega (arith, length-append ks (key.now ∷ []))

-- what is open after a push
pub pushed : {X : Type 0} (tree : X → Tree) (old new : List (Open X)) (o : Open X)
    → new ≡ old ++ o ∷ [] → around tree [] new ≡ shown tree o ∷ around tree [] old
pushed tree old new o e = ap (λ os. around tree [] os) e ∙ around_push tree [] old o

-- where a group was just opened, a reading stands inside it
pub in_opened : {X : Type 0} (P : Reading → Type 0) (at : ℕ) (tree : X → Tree)
    (w : Open X) (os ws : List Waiting) (js ks : List (List ℕ)) → os ≡ shown tree w ∷ ws
    → js ≡ with_key ks w → P (reading_at os js before_group at)
    → P (now tree ws ks (step.Group w at))
in_opened P at tree w os ws js ks e f h =
    subst (λ vs. P (reading_at vs (with_key ks w) before_group at)) e
    (subst (λ is. P (reading_at os is before_group at)) f h)

-- what a step reads inside what is open
pub is_read : {B X : Type 0} (tree : X → Tree) (pass : Passing X) (text : List ℕ) (place : Place X)
    (g : OpenGroups B X) (p q : Quota) (r : Read X) → StepsTo text place p q r
    → IsKept text (λ t. groups_pass g pass t && place.passes pass t)
    → IsRead tree pass text (place.there tree (groups tree g) (keys g)) place.progress g p q r
is_read tree pass text place g p q r s kept = record {
  leaf = s.leaf;
  ends = s.ends;
  comes = s.comes tree (groups tree g) (keys g);
  kept = λ t h. let both = and_parts _ _ (kept t h) in
      and_from _ _ both.0 (s.keeps pass t h both.1);
  goes = s.goes;
}

-- what one reads inside a group that was just opened
pub opened_read : {B X : Type 0} (tree : X → Tree) (pass : Passing X) (text : List ℕ) (at : ℕ)
    (w : Open X) (old g : OpenGroups B X) (p q : Quota) (r : Read X)
    → StepsTo text (group_place X at) p q r → groups tree g ≡ shown tree w ∷ groups tree old
    → keys g ≡ with_key (keys old) w → IsKept text (λ t. groups_pass g pass t)
    → IsRead tree pass text (stands tree old (step.Group w at)) (3 * at + 2) g p q r
opened_read tree pass text at w old g p q r s e f kept = record {
  leaf = s.leaf;
  ends = s.ends;
  comes = in_opened (λ u. GoesOn text p q u (read_now tree (groups tree g) (keys g) r)) at tree w
      (groups tree g) (groups tree old) (keys g) (keys old) e f
      (s.comes tree (groups tree g) (keys g));
  kept = λ t h. and_from _ _ (kept t h) (s.keeps pass t h refl);
  goes = s.goes;
}

-- what passes of all that is open passes of the innermost group, and of the others
pub waiting_parts : {X : Type 0} (pass : Passing X) (t : Test) (old new : List (Open X))
    (o : Open X) → old ≡ new ++ o ∷ []
    → all_true (map (λ w. open_passes w pass t) old) ≡ true
    → (all_true (map (λ w. open_passes w pass t) new) ≡ true) × (open_passes o pass t ≡ true)
waiting_parts pass t old new o e h =
    by new (sym (ap (λ l. all_true (map (λ w. open_passes w pass t) l)) e) ∙ h)
  where
    by : (ws : List (Open _)) → all_true (map (λ w. open_passes w pass t) (ws ++ o ∷ [])) ≡ true
        → (all_true (map (λ w. open_passes w pass t) ws) ≡ true) × (open_passes o pass t ≡ true)
    by [] k = (refl, (and_parts (open_passes o pass t) _ k).0)
    by (x ∷ xs) k =
        let both = and_parts (open_passes x pass t) _ k in
        let rest = by xs both.1 in
        (and_from _ _ both.0 rest.0, rest.1)

-- one key more in the list of those that stand once
pub more_keys : (ks : List (Bor (List ℕ))) (i : ℕ) (d : Bor (List ℕ)) (old new : List (List ℕ))
    → i < length ks → old ≡ first_places (map (λ k. k.now) (take i ks))
    → new ≡ insert_key (pointwise nat_eq) old (get_or ks i d).now
    → new ≡ first_places (map (λ k. k.now) (take (i + 1) ks))
more_keys ks i d old new w e f =
    f ∙ ap (λ l. insert_key (pointwise nat_eq) l (get_or ks i d).now) e
    ∙ sym (first_places-snoc (map (λ k. k.now) (take i ks)) (get_or ks i d).now)
    ∙ ap first_places (sym (ap (λ l. map (λ k. k.now) l) (take_more ks i d w)
    ∙ map-append (λ k. k.now) (take i ks) (get_or ks i d ∷ [])))

-- nothing is open where nothing waits
pub nothing_open : {X : Type 0} (tree : X → Tree) (os : List (Open X)) → length os ≡ 0
    → around tree [] os ≡ []
nothing_open tree [] e = refl
nothing_open tree (o ∷ os) e = absurd (omega arith)

-- a step behind a group, inside what was open around it
pub behind_ended : {X : Type 0} (text : List ℕ) (q : Quota) (tree : X → Tree) (w : Open X) (x : X)
    (at : ℕ) (s : Step X) (os ws : List Waiting) (ks : List (List ℕ)) → os ≡ shown tree w ∷ ws
    → Resumes text w x at s
    → GoesOn text q q (now tree os ks (step.Ended x at)) (now tree ws ks s)
behind_ended text q tree w x at s os ws ks e h =
    subst (λ vs. GoesOn text q q (reading_at vs ks (behind_group (tree x)) at) (now tree ws ks s))
    (sym e) (h.comes tree ws ks q)

-- where nothing is open, the root has ended
pub root_ended : {X : Type 0} (text : List ℕ) (q : Quota) (tree : X → Tree) (x : X) (at : ℕ)
    (os : List Waiting) (ks : List (List ℕ)) → os ≡ []
    → GoesOn text q q (now tree os ks (step.Ended x at))
    (reading_at [] ks (behind_group (tree x)) at)
root_ended text q tree x at os ks e =
    subst (λ vs. GoesOn text q q (reading_at vs ks (behind_group (tree x)) at)
    (reading_at [] ks (behind_group (tree x)) at)) (sym e) (λ limit a. a)

-- where a text stands behind the root that may not stand there
pub text_goes_on : (text : List ℕ) (p q : Quota) (from : Reading) (at end : ℕ) (t : Tree)
    (ks : List (List ℕ)) (e : IcuTextError)
    → GoesOn text p q from (reading_at [] ks (behind_group t) at)
    → Skip text at end → HasBarred text end
    → e ≡ record { position = end; expected = expect.EndOfText } → StopsAt text p q from e
text_goes_on text p q from at end t ks e c k b h limit a =
    stuck_stops (reading_at [] ks (behind_group t) at) e (none_taken q)
    (subst (λ (g : IcuTextError). ReadStuck text (reading_at [] ks (behind_group t) at)
    g.position g.expected) (sym h)
    (behind [] ks t at end expect.EndOfText (more_text end b.at k b.order b.fits b.barred)))
    (λ is. absurd (false≢true is)) limit (c limit a)

-- where nothing does, or a text that may, the whole text is read
pub text_ends : (text : List ℕ) (first : ℕ) (p q : Quota) (at end : ℕ) (t : Tree)
    (ks : List (List ℕ))
    → GoesOn text p q (at_root first) (reading_at [] ks (behind_group t) at)
    → Skip text at end → HasNoBarred text end → RootThere text first p q t ks
text_ends text first p q at end t ks c k free limit a =
    record {
      end = at;
      stands = c limit a;
      after = record { to = end; before = k; free = free };
    }

-- a refusal of the header is one of the text
pub header_refused : (text : List ℕ) (limit : Limit) (q : Quota) (e : IcuTextError)
    → q.is_over ≡ false → HeaderFails text e → Stops text limit q e
header_refused text limit q e h s = record {
  fails = inr (record {
    stuck = in_header s;
    first = header_never_more text limit e.position e.expected s;
  });
  over = λ o. absurd (false≢true (sym h ∙ o));
}

-- a limit that is less than the root makes
pub root_over : (text name : List ℕ) (f : Bool) (first : ℕ) (p q : Quota) (e : IcuTextError)
    → Header text name f first → RunsOver p q p.weights.group → e ≡ want_of_memory
    → Stops text (limit_of p) q e
root_over text name f first p q e h o memory = record {
  fails = inl memory;
  over = λ _. by_the_root name f first h o.more;
}

-- the root has begun
pub root_begun : (text name : List ℕ) (f : Bool) (first : ℕ) (p q : Quota)
    → Header text name f first → TakesBytes p q p.weights.group → p.is_over ≡ false
    → IsAt text (limit_of p) q (at_root first)
root_begun text name f first p q h t o = record {
  bytes = p.weights.group;
  made = root_makes p.weights text name f first h;
  sum = omega (arith, t.left);
  weights = t.weights;
  over = t.over ∙ o;
}

-- want of memory behind the root
pub memory_last : (text : List ℕ) (limit : Limit) (q : Quota) (e : IcuTextError) (r : Reading)
    → e ≡ want_of_memory → IsAt text limit q r → Stops text limit q e
memory_last text limit q e r h a = memory_stops r e (none_taken q) h limit a

-- the whole text is within the limit
pub made_within : (text : List ℕ) (limit : Limit) (q : Quota) (tree : Tree) (places : List (List ℕ))
    → IsWhole text limit q tree places → IcuMadeWithin text limit
made_within text limit q tree places w = record {
  tree = tree;
  places = places;
  end = w.end;
  bytes = w.stands.bytes;
  made = w.stands.made;
  after = w.after;
  within = omega (arith, w.stands.sum);
}

-- and it is a bundle
pub whole_root : (text name : List ℕ) (f : Bool) (first : ℕ) (limit : Limit) (q : Quota)
    (tree : Tree) (places : List (List ℕ)) → Header text name f first
    → IsWhole text limit q tree places → IcuText text name f tree (first_places places)
whole_root text name f first limit q tree places h w =
    whole_text text w.stands.bytes places tree w.end name f first h w.stands.made w.after

-- what a stop says of the text
stop_says : {text : List ℕ} {limit : Limit} {q : Quota} {e : IcuTextError} (P : Type 0)
    → (IsStuck text limit e → P) → Stops text limit q e → (e ≡ want_of_memory) ⊎ P
stop_says {e = e} P f s = ⊎_elim (λ (m : e ≡ want_of_memory). inl m) (λ n. inr (f n)) s.fails

-- a text that is refused is no bundle
pub stop_is_no_text : (text : List ℕ) (limit : Limit) (q : Quota) (e : IcuTextError)
    → Stops text limit q e → (e ≡ want_of_memory) ⊎ IsNoIcuText text
stop_is_no_text text limit q e s =
    stop_says _ (λ n. stuck_is_no_text text e.position e.expected n.stuck) s

-- what an answer says that is a stop
pub answer_fails : {T : Type 0} (text : List ℕ) (limit : Limit) (q : Quota) (P : T → Type 0)
    (r : Result T IcuTextError) → MatchResult r P (Stops text limit q) → IfErr r (IcuFails text)
answer_fails text limit q P (Ok x) h = tt
answer_fails text limit q P (Err e) h = stop_says _ (λ n. n.stuck) h

pub answer_no_text : {T : Type 0} (text : List ℕ) (limit : Limit) (q : Quota) (P : T → Type 0)
    (r : Result T IcuTextError) → MatchResult r P (Stops text limit q)
    → IfErr r (λ e. (e ≡ want_of_memory) ⊎ IsNoIcuText text)
answer_no_text text limit q P (Ok x) h = tt
answer_no_text text limit q P (Err e) h = stop_is_no_text text limit q e h

-- where more was asked for than this limit, a reading makes more
pub larger_makes : (text : List ℕ) (limit n : Limit) (q : Quota) (e : IcuTextError) → limit ≡ n
    → Stops text limit q e → q.is_over ≡ true → IcuMakesMore text n
larger_makes text limit n q e same s o = subst (λ l. IcuMakesMore text l) same (s.over o)

-- and the text's own refusal is within it
pub text_within : (text : List ℕ) (limit n : Limit) (q : Quota) (e : IcuTextError) → limit ≡ n
    → Stops text limit q e → IcuFails text e × IcuNeverMore text n e
text_within text limit n q e same s = (
  stop_says _ (λ n. n.stuck) s,
  subst (λ l. IcuNeverMore text l e) same (stop_says _ (λ n. n.first) s),
)

-- where a name stands, and where none does
pub ruleset names = (no_name, whole_name, reach_low, reach_high)

-- where no name stands before the root
pub ruleset headers = (no_header_name, reach_low, reach_high)

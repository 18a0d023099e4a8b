-- The entries of a table: in which order they stand, and a map of them.
use Rattle.std.proofs.Common.{◌≡◌, ℕ, ◌+◌, ◌-◌, ◌<◌, Bool, true, List, [], ◌∷◌, ◌++◌, Bor}
use Rattle.std.proofs.Common.{BTreeMap, arith, length, take, get_or}
use Rattle.std.proofs.lemmas.List.{take_more, map_push}
use Rattle.std.proofs.lemmas.Simd.{map-map}
use Rattle.std.proofs.Common.{Less, map, refl, sym, ap, ◌∙◌, subst}
use Rattle.std.proofs.lemmas.Bool.{and_from, and_parts}
use Rattle.std.specs.BTreeMap.{is_at, IsFromIterResult}
use Rattle.std.specs.Cmp.Lexicographic.{nat_list_cmp_total}
use Rattle.std.specs.List.{AllByRecursion}
use Rattle.std.specs.List.Sorted.{IsStrictlySortedBy}
use Rattle.std.specs.Map.{keys_of, lookup, update, update_all}
use Rattle.std.specs.Ordering.{is_eq, is_lt, eq_by_cmp}
use Rattle.std.specs.Prelude.{cond, Option, Some, None}
use Rattle.resb_tree.specs.Borrowing.{all_true}
use Rattle.resb_tree.specs.Maps.{text_cmp}
use Rattle.resb_tree.specs.Tree.{Tree, entries_of, map_of}
use Rattle.resb_tree.proofs.AtOnce.{inserted, made_entries, inserted_seen, inserted_pass}
use Rattle.resb_tree.proofs.AtOnce.{seen_by, values_pass}
use Rattle.resb_tree.proofs.MapsLemmas.{map_of-sorted}
use Rattle.resb_tree.proofs.Numbers.{is_lt_tells}
use Rattle.resb_draft.specs.Drafts.{texts, texts_ascend}
use Rattle.resb_draft.specs.Inner.Entries.{keys_ascend, slice_order}
use Rattle.resb_draft.proofs.Lists.{ascend_on}

-- entries by the texts of their keys
abbrev keyed : List (Bor (List ℕ) × ℕ) → List (List ℕ × ℕ)
keyed ps = map (λ p. (p.0.now, p.1)) ps

-- entries with the trees of their values
abbrev pub seen : (ℕ → Tree) → List (Bor (List ℕ) × ℕ) → List (List ℕ × Tree)
seen tree ps = map (λ p. (p.0.now, tree p.1)) ps

-- keys that ascend do so with one more behind the last, which is less
pub keys_more : (ks : List (Bor (List ℕ))) (i : ℕ) (d e : Bor (List ℕ)) → 0 < i
    → i < length ks → texts_ascend (texts (take i ks)) ≡ true
    → is_lt (text_cmp (get_or ks (i - 1) d).now (get_or ks i e).now) ≡ true
    → texts_ascend (texts (take (i + 1) ks)) ≡ true
keys_more ks i d e some few h less =
    let now : Bor (List ℕ) → List ℕ = λ b. b.now in
    let one : i - 1 + 1 ≡ i = omega (arith, some) in
    let front = take (i - 1) ks in
    let last = get_or ks (i - 1) d in
    let next = get_or ks i e in
    let is : map now (take i ks) ≡ map now front ++ now last ∷ [] =
    ap (λ n. map now (take n ks)) (sym one)
    ∙ ap (map now) (take_more ks (i - 1) d (omega (arith, few)))
    ∙ map_push now front last in
    ap (λ l. texts_ascend (map now l)) (take_more ks i e few)
    ∙ ap texts_ascend (map_push now (take i ks) next ∙ ap (λ l. l ++ now next ∷ []) is)
    ∙ ascend_on (map now front) (now last) (now next) (ap texts_ascend (sym is) ∙ h) less

-- the keys of entries ascend where they do among a draft's keys
pub own_ascend : (ks : List (Bor (List ℕ))) (es : List (Bor (List ℕ) × ℕ))
    → ks ≡ map (λ e. e.0) es → texts_ascend (texts ks) ≡ true → keys_ascend es ≡ true
own_ascend ks es is h =
    let now : Bor (List ℕ) → List ℕ = λ b. b.now in
    let key : Bor (List ℕ) × ℕ → Bor (List ℕ) = λ e. e.0 in
    ap texts_ascend (sym (map-map now key es)) ∙ ap (λ l. texts_ascend (texts l)) (sym is) ∙ h

below_all : (k l : List ℕ) (ks : List (List ℕ)) → text_cmp k l ≡ Less
    → AllByRecursion (λ y. text_cmp l y ≡ Less) ks → AllByRecursion (λ y. text_cmp k y ≡ Less) ks
below_all k l [] e h = tt
below_all k l (q ∷ ks) e h = (nat_list_cmp_total.trans k l q e h.0, below_all k l ks e h.1)

-- texts that ascend are sorted
pub texts_sorted : (ks : List (List ℕ)) → texts_ascend ks ≡ true → IsStrictlySortedBy text_cmp ks
unfolding IsStrictlySortedBy
texts_sorted [] h = tt
texts_sorted (k ∷ []) h = (tt, tt)
texts_sorted (k ∷ l ∷ ks) h =
    let parts = and_parts (is_lt (text_cmp k l)) _ h in
    let e = is_lt_tells _ parts.0 in
    let more = texts_sorted (l ∷ ks) parts.1 in
    ((e, below_all k l ks e more.0), more)

keys_seen : (tree : ℕ → Tree) (ps : List (Bor (List ℕ) × ℕ))
    → keys_of (seen tree ps) ≡ map (λ p. p.0.now) ps
keys_seen tree [] = refl
keys_seen tree (p ∷ ps) = ap (λ l. p.0.now ∷ l) (keys_seen tree ps)

-- entries whose keys ascend are the map of them
pub ascending_map : (tree : ℕ → Tree) (ps : List (Bor (List ℕ) × ℕ)) → keys_ascend ps ≡ true
    → entries_of (seen tree ps) ≡ map_of (seen tree ps)
ascending_map tree ps h =
    let sorted = texts_sorted (map (λ (p : Bor (List ℕ) × ℕ). p.0.now) ps) h in
    sym (map_of-sorted (seen tree ps)
    (subst (IsStrictlySortedBy text_cmp) (sym (keys_seen tree ps)) sorted))

-- A map of borrowed texts has the entries of one of texts.

keyed_lookup : (b : Bor (List ℕ)) (es : List (Bor (List ℕ) × ℕ))
    → lookup (is_at (slice_order b)) es ≡ lookup (is_at (text_cmp b.now)) (keyed es)
keyed_lookup b [] = refl
keyed_lookup b (e ∷ es) =
    ap (cond (is_eq (text_cmp b.now e.0.now)) (Some e.1)) (keyed_lookup b es)

keyed_updates : (f : Bor (List ℕ) → Option ℕ) (g : List ℕ → Option ℕ)
    (ps : List (Bor (List ℕ) × ℕ)) → ((b : Bor (List ℕ)) → f b ≡ g b.now) → (b : Bor (List ℕ))
    → update_all (eq_by_cmp slice_order) f ps b
    ≡ update_all (eq_by_cmp text_cmp) g (keyed ps) b.now
keyed_updates f g [] h b = h b
keyed_updates f g (p ∷ ps) h b =
    keyed_updates (update (eq_by_cmp slice_order) f p.0 (Some p.1))
    (update (eq_by_cmp text_cmp) g p.0.now (Some p.1)) ps
    (λ c. ap (cond (eq_by_cmp text_cmp p.0.now c.now) (Some p.1)) (h c)) b

keyed_below : (k : Bor (List ℕ)) (es : List (Bor (List ℕ) × ℕ))
    → AllByRecursion (λ y. slice_order k y ≡ Less) (keys_of es)
    → AllByRecursion (λ y. text_cmp k.now y ≡ Less) (keys_of (keyed es))
keyed_below k [] h = tt
keyed_below k (e ∷ es) h = (h.0, keyed_below k es h.1)

keyed_sorted : (es : List (Bor (List ℕ) × ℕ)) → IsStrictlySortedBy slice_order (keys_of es)
    → IsStrictlySortedBy text_cmp (keys_of (keyed es))
unfolding IsStrictlySortedBy
keyed_sorted [] h = tt
keyed_sorted (e ∷ es) h = (keyed_below e.0 es h.0, keyed_sorted es h.1)

keyed_made : (ps : List (Bor (List ℕ) × ℕ)) (m : BTreeMap (Bor (List ℕ)) ℕ)
    → IsFromIterResult slice_order ps m → keyed m.entries ≡ inserted [] (keyed ps)
keyed_made ps m h =
    made_entries (keyed ps) (keyed m.entries) (keyed_sorted m.entries h.1)
    (λ q. let b : Bor (List ℕ) = record { ref_ptr = (0, 0); now = q } in
    sym (keyed_lookup b m.entries) ∙ h.0 b
    ∙ keyed_updates (λ _. None) (λ _. None) ps (λ _. refl) b)

seen_keyed : (tree : ℕ → Tree) (ps : List (Bor (List ℕ) × ℕ))
    → seen tree ps ≡ seen_by tree (keyed ps)
seen_keyed tree [] = refl
seen_keyed tree (p ∷ ps) = ap (λ qs. (p.0.now, tree p.1) ∷ qs) (seen_keyed tree ps)

tests_keyed : (test : ℕ → Bool) (ps : List (Bor (List ℕ) × ℕ))
    → map (λ p. test p.1) ps ≡ map (λ (p : List ℕ × ℕ). test p.1) (keyed ps)
tests_keyed test [] = refl
tests_keyed test (p ∷ ps) = ap (λ bs. test p.1 ∷ bs) (tests_keyed test ps)

-- the entries of a map that is made at once are the map of them
pub made_seen : (tree : ℕ → Tree) (ps : List (Bor (List ℕ) × ℕ)) (m : BTreeMap (Bor (List ℕ)) ℕ)
    → IsFromIterResult slice_order ps m
    → entries_of (seen tree m.entries) ≡ map_of (seen tree ps)
made_seen tree ps m h =
    ap entries_of (seen_keyed tree m.entries)
    ∙ ap (λ es. entries_of (seen_by tree es)) (keyed_made ps m h)
    ∙ inserted_seen tree [] (keyed ps) ∙ ap map_of (sym (seen_keyed tree ps))

-- what is true of each value is so in the map
pub made_pass : (test : ℕ → Bool) (ps : List (Bor (List ℕ) × ℕ))
    (m : BTreeMap (Bor (List ℕ)) ℕ) → IsFromIterResult slice_order ps m
    → all_true (map (λ p. test p.1) ps) ≡ true → all_true (map (λ p. test p.1) m.entries) ≡ true
made_pass test ps m h r =
    ap all_true (tests_keyed test m.entries) ∙ ap (values_pass test) (keyed_made ps m h)
    ∙ inserted_pass test [] (keyed ps) refl (sym (ap all_true (tests_keyed test ps)) ∙ r)

sorted_ascend : (es : List (Bor (List ℕ) × ℕ)) → IsStrictlySortedBy slice_order (keys_of es)
    → keys_ascend es ≡ true
unfolding IsStrictlySortedBy
sorted_ascend [] h = refl
sorted_ascend (e ∷ []) h = refl
sorted_ascend (e ∷ f ∷ es) h =
    and_from (is_lt (text_cmp e.0.now f.0.now)) _ (ap is_lt h.0.0) (sorted_ascend (f ∷ es) h.1)

-- and its keys ascend
pub made_ascend : (ps : List (Bor (List ℕ) × ℕ)) (m : BTreeMap (Bor (List ℕ)) ℕ)
    → IsFromIterResult slice_order ps m → keys_ascend m.entries ≡ true
made_ascend ps m h = sorted_ascend m.entries h.1

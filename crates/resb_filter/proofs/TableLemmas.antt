-- Tables of drafts: their entries, what is left of them so far, and what is made of that.
use Rattle.std.proofs.Common.{◌≡◌, ℕ, ◌+◌, ◌<◌, Bool, true, false, List, [], ◌∷◌, ◌++◌, Bor, map}
use Rattle.std.proofs.Common.{refl, sym, ap, ◌∙◌, subst, arith, length, get_or, zero, suc, take}
use Rattle.std.proofs.Common.{append-nil}
use Rattle.std.specs.Prelude.{Option, Some, None, Result, Ok, Err, OnOk, slice_range}
use Rattle.std.specs.List.{zip}
use Rattle.std.specs.List.Sorted.{IsStrictlySortedBy}
use Rattle.std.specs.Map.{keys_of}
use Rattle.std.proofs.lemmas.Bool.{and_from, and_parts, false≢true}
use Rattle.std.proofs.lemmas.List.{map-append, take_more}
use Rattle.resb_tree.specs.Borrowing.{all_true}
use Rattle.resb_tree.specs.Maps.{text_cmp}
use Rattle.resb_tree.specs.Tree.{Tree, string, alias, array, table, binary, integer, int_vector}
use Rattle.resb_tree.specs.Tree.{entries_of, map_of}
use Rattle.resb_tree.proofs.MapsLemmas.{map_of-sorted}
use Rattle.resb_draft.specs.Drafts.{texts, texts_ascend, part, tree_at, is_whole, is_leaf, Keeps}
use Rattle.resb_draft.specs.declared.draft.Draft.{Draft}
use Rattle.resb_draft.specs.declared.draft.Members.{Members}
use Rattle.resb_draft.proofs.EntriesLemmas.{texts_sorted}
use Rattle.resb_draft.proofs.Lists.{texts-part, all_append}
use Rattle.resb_draft.proofs.Standing.{keeps_on}
use Rattle.resb_draft.proofs.Whole.{WholeTable, part_length}
use Rattle.resb_filter.specs.Filtered.{Rule, filtered, entry_left}
use Rattle.resb_filter.specs.Collated.{each_inside}
use Rattle.resb_filter.specs.Inner.Entries.{seen, AreEntries, IsNoTable, StaysAs, is_table}
use Rattle.resb_filter.specs.Inner.Left.{Leaving, one_left, all_left, LeftSoFar}
use Rattle.resb_filter.proofs.LeftLemmas.{all_left-push}
use Rattle.resb_filter.proofs.LeftLemmas.{entries_are_left, entries_are_changed}
use Rattle.resb_filter.proofs.LeftLemmas.{left_sorted}

-- what holds anyway holds where a call gave a value
pub when_ok : {T E : Type 0} {P : Type 0} (r : Result T E) → P → OnOk r P
when_ok (Ok t) p = p
when_ok (Err e) p = tt

zip_seen : (tree : ℕ → Tree) (ks : List (Bor (List ℕ))) (ns : List ℕ)
    → zip (texts ks) (map tree ns) ≡ seen tree (zip ks ns)
zip_seen tree [] ns = refl
zip_seen tree (k ∷ ks) [] = refl
zip_seen tree (k ∷ ks) (n ∷ ns) = ap (λ l. (k.now, tree n) ∷ l) (zip_seen tree ks ns)

zip_keys : (ks : List (Bor (List ℕ))) (ns : List ℕ) → length ks ≡ length ns
    → map (λ (p : Bor (List ℕ) × ℕ). p.0.now) (zip ks ns) ≡ texts ks
zip_keys [] ns h = refl
zip_keys (k ∷ ks) [] h = absurd (omega (arith, h))
zip_keys (k ∷ ks) (n ∷ ns) h = ap (λ l. k.now ∷ l) (zip_keys ks ns (omega (arith, h)))

zip_values : (test : ℕ → Bool) (ks : List (Bor (List ℕ))) (ns : List ℕ) → length ks ≡ length ns
    → map (λ (p : Bor (List ℕ) × ℕ). test p.1) (zip ks ns) ≡ map test ns
zip_values test [] [] h = refl
zip_values test [] (n ∷ ns) h = absurd (omega (arith, h))
zip_values test (k ∷ ks) [] h = absurd (omega (arith, h))
zip_values test (k ∷ ks) (n ∷ ns) h =
    ap (λ l. test n ∷ l) (zip_values test ks ns (omega (arith, h)))

-- the keys and members of a table that is whole, side by side, are its entries
pub table_entries : (d : Draft) (n : ℕ) (m : Members) (k : ℕ) → WholeTable d n m k
    → (ks : List (Bor (List ℕ))) (ns : List ℕ)
    → ks ≡ slice_range d.keys.items k (k + m.count)
    → ns ≡ slice_range d.members.items m.from (m.from + m.count) → AreEntries d n (zip ks ns)
table_entries d n m k w ks ns keys values =
    let names : texts ks ≡ part (texts d.keys.items) k m =
    ap texts keys ∙ texts-part d.keys.items k (k + m.count) in
    let trees : map (tree_at d) ns ≡ map (tree_at d) (part d.members.items m.from m) =
    ap (map (tree_at d)) values in
    let many : length ks ≡ length ns =
    ap length keys ∙ part_length d.keys.items k m w.keys
    ∙ sym (ap length values ∙ part_length d.members.items m.from m w.inside) in
    record {
      tree = w.tree ∙ (λ i. table (entries_of (zip (sym names i) (sym trees i))))
          ∙ ap (λ l. table (entries_of l)) (zip_seen (tree_at d) ks ns);
      ascend = ap texts_ascend (zip_keys ks ns many ∙ names) ∙ w.ascend;
      whole = ap all_true (zip_values (is_whole d) ks ns many ∙ ap (map (is_whole d)) values)
          ∙ w.whole;
    }

-- a leaf is no table
pub leaf_no_table : (t : Tree) → is_leaf t ≡ true → is_table t ≡ false
leaf_no_table (table es) h = absurd (false≢true h)
leaf_no_table (array ts) h = refl
leaf_no_table (string s) h = refl
leaf_no_table (alias s) h = refl
leaf_no_table (binary s) h = refl
leaf_no_table (integer n) h = refl
leaf_no_table (int_vector s) h = refl

-- rules leave all of a tree that is no table
pub none_filtered : (rs : List Rule) (t : Tree) → is_table t ≡ false → filtered rs t ≡ t
none_filtered rs (table es) h = absurd (false≢true (sym h))
none_filtered rs (array ts) h = refl
none_filtered rs (string s) h = refl
none_filtered rs (alias s) h = refl
none_filtered rs (binary s) h = refl
none_filtered rs (integer n) h = refl
none_filtered rs (int_vector s) h = refl

-- nothing is changed inside one
pub none_changed : (f : List ℕ → Tree → Tree) (t : Tree) → is_table t ≡ false
    → each_inside f t ≡ t
none_changed f (table es) h = absurd (false≢true (sym h))
none_changed f (array ts) h = refl
none_changed f (string s) h = refl
none_changed f (alias s) h = refl
none_changed f (binary s) h = refl
none_changed f (integer n) h = refl
none_changed f (int_vector s) h = refl

-- a piece stands for a tree that is no table
pub no_table : (d : Draft) (n : ℕ) (t : Tree) → tree_at d n ≡ t → is_table t ≡ false
    → IsNoTable d n
no_table d n t is h = ap is_table is ∙ h

-- entries whose values are whole show the same while a draft grows
pub entries_on : (old new : Draft) → Keeps old new → (ps : List (Bor (List ℕ) × ℕ))
    → all_true (map (λ (p : Bor (List ℕ) × ℕ). is_whole old p.1) ps) ≡ true
    → (seen (tree_at new) ps ≡ seen (tree_at old) ps)
    × (all_true (map (λ (p : Bor (List ℕ) × ℕ). is_whole new p.1) ps) ≡ true)
entries_on old new k [] h = (refl, refl)
entries_on old new k (p ∷ ps) h =
    let both = and_parts (is_whole old p.1) _ h in
    let first = k p.1 both.0 in
    let rest = entries_on old new k ps both.1 in
    ((λ i. (p.0.now, first.0 i) ∷ rest.0 i), and_from _ _ first.1 rest.1)

-- the entry of a key whose value may be left, as a list of one, or none
abbrev pub pushed : Bor (List ℕ) → Option ℕ → List (Bor (List ℕ) × ℕ)
pushed k None = []
pushed k (Some n) = (k, n) ∷ []

-- at the start nothing is left of no entries
pub left_start : (d : Draft) (f : Leaving) → LeftSoFar d d f [] []
left_start d f = record { keeps = λ n h. (refl, h); trees = refl; whole = refl }

-- what is left stands so in a draft that grows on
pub left_on : (start d e : Draft) (f : Leaving) (ps left : List (Bor (List ℕ) × ℕ)) → Keeps d e
    → LeftSoFar start d f ps left → LeftSoFar start e f ps left
left_on start d e f ps left k so =
    let on = entries_on d e k left so.whole in
    record { keeps = keeps_on start d e so.keeps k; trees = on.0 ∙ so.trees; whole = on.1 }

pushed_seen : (d : Draft) (k : Bor (List ℕ)) (t : Option Tree) (o : Option ℕ) → StaysAs d t o
    → (seen (tree_at d) (pushed k o) ≡ one_left k.now t)
    × (all_true (map (λ (p : Bor (List ℕ) × ℕ). is_whole d p.1) (pushed k o)) ≡ true)
pushed_seen d k None None h = (refl, refl)
pushed_seen d k None (Some n) h = absurd h
pushed_seen d k (Some t) None h = absurd h
pushed_seen d k (Some t) (Some n) h = (ap (λ u. (k.now, u) ∷ []) h.0, and_from _ _ h.1 refl)

-- an entry more
pub left_step : (start d e : Draft) (f : Leaving) (ps left : List (Bor (List ℕ) × ℕ))
    (p : Bor (List ℕ) × ℕ) (o : Option ℕ) → LeftSoFar start d f ps left
    → is_whole start p.1 ≡ true → Keeps d e
    → StaysAs e (f p.0.now (tree_at d p.1)) o
    → LeftSoFar start e f (ps ++ p ∷ []) (left ++ pushed p.0 o)
left_step start d e f ps left p o so w k s =
    let now : Bor (List ℕ) × ℕ → List ℕ × Tree = λ q. (q.0.now, tree_at e q.1) in
    let was : Bor (List ℕ) × ℕ → List ℕ × Tree = λ q. (q.0.now, tree_at start q.1) in
    let test : Bor (List ℕ) × ℕ → Bool = λ q. is_whole e q.1 in
    let on = entries_on d e k left so.whole in
    let one = pushed_seen e p.0 (f p.0.now (tree_at d p.1)) o s in
    let same : tree_at d p.1 ≡ tree_at start p.1 = (so.keeps p.1 w).0 in
    let last = one_left p.0.now (f p.0.now (tree_at start p.1)) in
    record {
      keeps = keeps_on start d e so.keeps k;
      trees = map-append now left (pushed p.0 o)
          ∙ (λ i. (on.0 ∙ so.trees) i
          ++ (one.0 ∙ ap (λ t. one_left p.0.now (f p.0.now t)) same) i)
          ∙ sym (all_left-push f (seen (tree_at start) ps) (p.0.now, tree_at start p.1))
          ∙ ap (all_left f) (sym (map-append was ps (p ∷ [])));
      whole = ap all_true (map-append test left (pushed p.0 o))
          ∙ all_append (map test left) (map test (pushed p.0 o)) on.1 one.1;
    }

pub seen_keys : (tree : ℕ → Tree) (ps : List (Bor (List ℕ) × ℕ))
    → keys_of (seen tree ps) ≡ map (λ (p : Bor (List ℕ) × ℕ). p.0.now) ps
seen_keys tree [] = refl
seen_keys tree (p ∷ ps) = ap (λ l. p.0.now ∷ l) (seen_keys tree ps)

-- the table of what is left of all entries
left_table : (start d : Draft) (n : ℕ) (f : Leaving) (ps left : List (Bor (List ℕ) × ℕ))
    → AreEntries start n ps → LeftSoFar start d f ps left
    → table (map_of (seen (tree_at d) left))
    ≡ table (entries_of (all_left f (seen (tree_at start) ps)))
left_table start d n f ps left a so =
    let es = seen (tree_at start) ps in
    let sorted = left_sorted f es (subst (IsStrictlySortedBy text_cmp)
    (sym (seen_keys (tree_at start) ps))
    (texts_sorted (map (λ (p : Bor (List ℕ) × ℕ). p.0.now) ps) a.ascend)) in
    ap (λ l. table (map_of l)) so.trees ∙ ap table (map_of-sorted (all_left f es) sorted)

-- it is what the rules leave of the table
pub left_made : (start d : Draft) (n : ℕ) (rs : List Rule) (ps left : List (Bor (List ℕ) × ℕ))
    → AreEntries start n ps → LeftSoFar start d (entry_left rs) ps left
    → table (map_of (seen (tree_at d) left)) ≡ filtered rs (tree_at start n)
left_made start d n rs ps left a so =
    let es = seen (tree_at start) ps in
    left_table start d n (entry_left rs) ps left a so
    ∙ ap table (sym (entries_are_left rs es)) ∙ ap (filtered rs) (sym a.tree)

-- the table of all entries, each of which was changed
pub changed_made : (start d : Draft) (n : ℕ) (f : List ℕ → Tree → Tree)
    (ps changed : List (Bor (List ℕ) × ℕ)) → AreEntries start n ps
    → LeftSoFar start d (λ k t. Some (f k t)) ps changed
    → table (map_of (seen (tree_at d) changed)) ≡ each_inside f (tree_at start n)
changed_made start d n f ps changed a so =
    let es = seen (tree_at start) ps in
    left_table start d n (λ k t. Some (f k t)) ps changed a so
    ∙ ap table (sym (entries_are_changed f es)) ∙ ap (each_inside f) (sym a.tree)

-- each value of a table that is whole is whole
pub entry_whole : (d : Draft) (ps : List (Bor (List ℕ) × ℕ)) (i : ℕ) (p : Bor (List ℕ) × ℕ)
    → all_true (map (λ (q : Bor (List ℕ) × ℕ). is_whole d q.1) ps) ≡ true → i < length ps
    → is_whole d (get_or ps i p).1 ≡ true
entry_whole d [] i p h lt = absurd (omega (arith, lt))
entry_whole d (q ∷ ps) zero p h lt = (and_parts (is_whole d q.1) _ h).0
entry_whole d (q ∷ ps) (suc i) p h lt =
    entry_whole d ps i p (and_parts (is_whole d q.1) _ h).1 (omega (arith, lt))

-- an entry of a table more
left_more : (start d e : Draft) (f : Leaving) (es : List (Bor (List ℕ) × ℕ)) (i : ℕ)
    (p : Bor (List ℕ) × ℕ) (left new : List (Bor (List ℕ) × ℕ)) (o : Option ℕ) → i < length es
    → LeftSoFar start d f (take i es) left
    → all_true (map (λ (q : Bor (List ℕ) × ℕ). is_whole start q.1) es) ≡ true → Keeps d e
    → StaysAs e (f (get_or es i p).0.now (tree_at d (get_or es i p).1)) o
    → new ≡ left ++ pushed (get_or es i p).0 o → LeftSoFar start e f (take (i + 1) es) new
left_more start d e f es i p left new o lt so whole k s all =
    subst (λ qs. LeftSoFar start e f qs new) (sym (take_more es i p lt))
    (subst (LeftSoFar start e f (take i es ++ get_or es i p ∷ [])) (sym all)
    (left_step start d e f (take i es) left (get_or es i p) o so
    (entry_whole start es i p whole lt) k s))

-- one that stays
pub stays_more : (start d e : Draft) (f : Leaving) (es : List (Bor (List ℕ) × ℕ)) (i : ℕ)
    (p : Bor (List ℕ) × ℕ) (left new : List (Bor (List ℕ) × ℕ)) (o : Option ℕ) (n : ℕ)
    → i < length es → LeftSoFar start d f (take i es) left
    → all_true (map (λ (q : Bor (List ℕ) × ℕ). is_whole start q.1) es) ≡ true → Keeps d e
    → StaysAs e (f (get_or es i p).0.now (tree_at d (get_or es i p).1)) o
    → o ≡ Some n → new ≡ left ++ ((get_or es i p).0, n) ∷ []
    → LeftSoFar start e f (take (i + 1) es) new
stays_more start d e f es i p left new o n lt so whole k s is all =
    left_more start d e f es i p left new o lt so whole k s
    (all ∙ ap (λ q. left ++ pushed (get_or es i p).0 q) (sym is))

-- one that goes
pub goes_more : (start d e : Draft) (f : Leaving) (es : List (Bor (List ℕ) × ℕ)) (i : ℕ)
    (p : Bor (List ℕ) × ℕ) (left new : List (Bor (List ℕ) × ℕ)) (o : Option ℕ)
    → i < length es → LeftSoFar start d f (take i es) left
    → all_true (map (λ (q : Bor (List ℕ) × ℕ). is_whole start q.1) es) ≡ true → Keeps d e
    → StaysAs e (f (get_or es i p).0.now (tree_at d (get_or es i p).1)) o
    → o ≡ None → new ≡ left → LeftSoFar start e f (take (i + 1) es) new
goes_more start d e f es i p left new o lt so whole k s is all =
    left_more start d e f es i p left new o lt so whole k s
    (all ∙ sym (append-nil left) ∙ ap (λ q. left ++ pushed (get_or es i p).0 q) (sym is))

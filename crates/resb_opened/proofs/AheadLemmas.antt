-- What is still to come of arrays and tables, a step further.
use Rattle.std.proofs.Common.{◌≡◌, ℕ, List, [], ◌∷◌, Some, None, refl, sym, subst, ap, ◌∙◌, map}
use Rattle.std.proofs.Common.{Bool, true, false, Less}
use Rattle.std.proofs.Math.Logic.{∥∥₁_elim, ∥∥₁_map}
use Rattle.std.proofs.lemmas.Bool.{false≢true}
use Rattle.std.proofs.lemmas.Cmp.{nat_list_cmp_total}
use Rattle.std.specs.List.{AllByRecursion}
use Rattle.std.specs.List.Sorted.{IsStrictlySortedBy}
use Rattle.std.specs.Map.{keys_of}
use Rattle.std.specs.Ordering.{nat_cmp, is_lt}
use Rattle.std.specs.Cmp.Lexicographic.{slice_cmp}
use Rattle.std.specs.Prelude.{if◌then◌else◌, option_map, T}
use Rattle.resb_tree.specs.Maps.{text_cmp, IsMap}
use Rattle.resb_tree.specs.Tree.{Tree, Entries, no_entries, table, put, put_all}
use Rattle.resb_tree.specs.Tree.{trees_of, entries_of}
use Rattle.resb_tree.proofs.MapsLemmas.{IsMap-put, map_of-sorted}
use Rattle.resb_tree.proofs.Numbers.{is_lt_tells}
use Rattle.resb_format.specs.Content.{Member}
use Rattle.resb_format.specs.Denotes.{DenEach, each_none, each_more, DenEntries}
use Rattle.resb_format.specs.Denotes.{entries_none, entries_more}
use Rattle.resb_format.specs.Lookups.{key_in}
use Rattle.resb_format.specs.Parts.{Parts}
use Rattle.resb_format.proofs.Lists.{same_some}
use Rattle.resb_read.specs.Sequences.{at_entry}
use Rattle.resb_read.specs.Tables.{keys_ascend, keys_ascend_above, is_above, key_of}
use Rattle.resb_read.specs.Tables.{text_or_empty, keys_ascend_from}
use Rattle.resb_opened.specs.Ahead.{EachDenotes, EachStands, PairsDenote, PairsStand}
use Rattle.resb_opened.specs.FieldLaws.{EachStands-prop, PairsStand-prop, same_trees, same_pairs}
use Rattle.resb_opened.specs.FieldLaws.{trees-set, pairs-set, Stands-prop, Tree-set}
use Rattle.resb_opened.specs.Handles.{entries_in}
use Rattle.resb_opened.specs.Inner.Holding.{EntriesDenote}
use Rattle.resb_opened.specs.Ordered.{Ordered, OrderedEach}
use Rattle.resb_opened.specs.Ordered.{each_more as more_ordered}
use Rattle.resb_opened.specs.Standing.{Stands}
use Rattle.resb_opened.proofs.StandingLemmas.{none_some}

-- what is still to come is one list of trees, or of entries
pub same_ahead : (p : Parts) (ms : List Member) (ts us : List Tree) → EachDenotes p ms ts
    → EachDenotes p ms us → trees_of ts ≡ trees_of us
same_ahead p ms ts us d e = ap trees_of (same_trees p ms ts us d e)

pub same_entries_ahead : (p : Parts) (es : List (ℕ × Member)) (ts us : List (List ℕ × Tree))
    → PairsDenote p es ts → PairsDenote p es us → entries_of ts ≡ entries_of us
same_entries_ahead p es ts us d e = ap entries_of (same_pairs p es ts us d e)

-- the first member, and those behind it
abbrev pub Next : Parts → Member → List Member → List Tree → Type 0
Next p m ms ts = (s : Stands p m) × (r : EachStands p ms) × (ts ≡ s.0 ∷ r.0)

next_of : {p : Parts} {m : Member} {ms : List Member} {ts : List Tree} {n : ℕ}
    → DenEach p (m ∷ ms) ts n → Next p m ms ts
next_of (each_more {j = j'} {k = k'} {t = t'} {ts = ts'} d ds) =
    ((t', ∣ (j', d) ∣₁), (ts', ∣ (k', ds) ∣₁), refl)

next_prop : (p : Parts) (m : Member) (ms : List Member) (ts : List Tree)
    → IsProp (Next p m ms ts)
next_prop p m ms ts = hlevel (Stands-prop p m, EachStands-prop p ms, trees-set)

pub next_each : (p : Parts) (all : List Member) (x : EachStands p all) (m : Member)
    (ms : List Member) → all ≡ m ∷ ms → Next p m ms x.0
next_each p all x m ms e =
    ∥∥₁_elim x.1 (next_prop p m ms x.0)
    (λ d. next_of (subst (λ ns. DenEach p ns x.0 d.0) e d.1))

none_of : {p : Parts} {ts : List Tree} {n : ℕ} → DenEach p [] ts n → ts ≡ []
none_of each_none = refl

pub no_each : (p : Parts) (all : List Member) (x : EachStands p all) → all ≡ [] → x.0 ≡ []
no_each p all x e =
    ∥∥₁_elim x.1 (trees-set _ _) (λ d. none_of (subst (λ ns. DenEach p ns x.0 d.0) e d.1))

-- the first entry, and those behind it
abbrev pub NextPair : Parts → List ℕ → Member → List (ℕ × Member) → List (List ℕ × Tree) → Type 0
NextPair p key m es ts = (s : Stands p m) × (r : PairsStand p es) × (ts ≡ (key, s.0) ∷ r.0)

next_pair_of : {p : Parts} {at : ℕ} {m : Member} {es : List (ℕ × Member)}
    {ts : List (List ℕ × Tree)} {n : ℕ} (key : List ℕ) → key_in p at ≡ Some key
    → DenEntries p ((at, m) ∷ es) ts n → NextPair p key m es ts
next_pair_of key is (entries_more {j = j'} {k = k'} {t = t'} {ts = ts'} h d ds) = (
  (t', ∣ (j', d) ∣₁),
  (ts', ∣ (k', ds) ∣₁),
  ap (λ l. (l, t') ∷ ts') (same_some h is),
)

next_pair_prop : (p : Parts) (key : List ℕ) (m : Member) (es : List (ℕ × Member))
    (ts : List (List ℕ × Tree)) → IsProp (NextPair p key m es ts)
next_pair_prop p key m es ts = hlevel (Stands-prop p m, PairsStand-prop p es, pairs-set)

pub next_pair : (p : Parts) (all : List (ℕ × Member)) (x : PairsStand p all) (at : ℕ) (m : Member)
    (es : List (ℕ × Member)) → all ≡ (at, m) ∷ es → (key : List ℕ) → key_in p at ≡ Some key
    → NextPair p key m es x.0
next_pair p all x at m es e key is =
    ∥∥₁_elim x.1 (next_pair_prop p key m es x.0)
    (λ d. next_pair_of key is (subst (λ fs. DenEntries p fs x.0 d.0) e d.1))

has_key : {p : Parts} {at : ℕ} {m : Member} {es : List (ℕ × Member)} {ts : List (List ℕ × Tree)}
    {n : ℕ} → DenEntries p ((at, m) ∷ es) ts n → key_in p at ≡ None → ⊥
has_key (entries_more h d ds) none = none_some none h

pub never_unkeyed : (p : Parts) (all : List (ℕ × Member)) (x : PairsStand p all) (at : ℕ)
    (m : Member) (es : List (ℕ × Member)) → all ≡ (at, m) ∷ es → key_in p at ≡ None → ⊥
never_unkeyed p all x at m es e none =
    ∥∥₁_elim x.1 (λ y. absurd y)
    (λ d. has_key (subst (λ fs. DenEntries p fs x.0 d.0) e d.1) none)

no_pairs_of : {p : Parts} {ts : List (List ℕ × Tree)} {n : ℕ} → DenEntries p [] ts n → ts ≡ []
no_pairs_of entries_none = refl

pub no_pairs : (p : Parts) (all : List (ℕ × Member)) (x : PairsStand p all) → all ≡ []
    → x.0 ≡ []
no_pairs p all x e =
    ∥∥₁_elim x.1 (pairs-set _ _)
    (λ d. no_pairs_of (subst (λ fs. DenEntries p fs x.0 d.0) e d.1))

-- what ascends is left where one goes
first_ordered : (p : Parts) (m : Member) (ms : List Member) → OrderedEach p (m ∷ ms)
    → Ordered p m × OrderedEach p ms
first_ordered p m ms (more_ordered o os) = (o, os)

pub first_of_all : (p : Parts) (all : List Member) (m : Member) (ms : List Member)
    → all ≡ m ∷ ms → ∥ OrderedEach p all ∥₁ → ∥ Ordered p m ∥₁
first_of_all p all m ms e h =
    ∥∥₁_map h (λ o. (first_ordered p m ms (subst (OrderedEach p) e o)).0)

pub rest_of_all : (p : Parts) (all : List Member) (m : Member) (ms : List Member)
    → all ≡ m ∷ ms → ∥ OrderedEach p all ∥₁ → ∥ OrderedEach p ms ∥₁
rest_of_all p all m ms e h =
    ∥∥₁_map h (λ o. (first_ordered p m ms (subst (OrderedEach p) e o)).1)

-- keys that ascend in the file ascend in the list of what they denote
lower_all : (low key : List ℕ) (ks : List (List ℕ)) → text_cmp low key ≡ Less
    → AllByRecursion (λ y. text_cmp key y ≡ Less) ks
    → AllByRecursion (λ y. text_cmp low y ≡ Less) ks
lower_all low key [] h all = all
lower_all low key (k ∷ ks) h all =
    (nat_list_cmp_total.trans low key k h all.0, lower_all low key ks h all.1)

above_step : (low key : List ℕ) (b r : Bool) → b ≡ is_lt (slice_cmp nat_cmp low key)
    → (if b then r else false) ≡ true → (text_cmp low key ≡ Less) × (r ≡ true)
above_step low key true r e h = (is_lt_tells (slice_cmp nat_cmp low key) (sym e), h)
above_step low key false r e h = absurd (false≢true h)

sorted_above : {p : Parts} {es : List (ℕ × Member)} {ts : List (List ℕ × Tree)} {n : ℕ}
    (low : List ℕ) → DenEntries p es ts n
    → keys_ascend_above low (map (at_entry p) es) ≡ true
    → AllByRecursion (λ y. text_cmp low y ≡ Less) (keys_of ts)
    × IsStrictlySortedBy text_cmp (keys_of ts)
unfolding IsStrictlySortedBy
sorted_above low entries_none h = (tt, tt)
sorted_above {p = p'} low (entries_more {m = m'} {at = at'} {es = es'} {key = key'} is d ds) h =
    let e : key_of (at_entry p' (at', m')) ≡ Some (key', 0)
    = ap (option_map (λ (s : List ℕ). (s, 0))) is in
    let (less, rest) = above_step low key' (is_lt (slice_cmp nat_cmp low key')) _ refl
    (subst (λ o. (if is_above low o then keys_ascend_above (text_or_empty o)
    (map (at_entry p') es') else false) ≡ true) e h) in
    let (all, sorted) = sorted_above key' ds rest in
    ((less, lower_all low key' _ less all), (all, sorted))

sorted_pairs : {p : Parts} {es : List (ℕ × Member)} {ts : List (List ℕ × Tree)} {n : ℕ}
    → DenEntries p es ts n → keys_ascend (map (at_entry p) es) ≡ true
    → IsStrictlySortedBy text_cmp (keys_of ts)
unfolding IsStrictlySortedBy
sorted_pairs entries_none h = tt
sorted_pairs {p = p'} (entries_more {m = m'} {at = at'} {es = es'} {key = key'} is d ds) h =
    let e : key_of (at_entry p' (at', m')) ≡ Some (key', 0)
    = ap (option_map (λ (s : List ℕ). (s, 0))) is in
    sorted_above key' ds
    (subst (λ o. keys_ascend_from o (map (at_entry p') es') ≡ true) e h)

T_prop : (b : Bool) → IsProp (T b)
T_prop true x y = refl
T_prop false x y = absurd x

map_of_more : (es : Entries) (ts : List (List ℕ × Tree)) → IsMap es → IsMap (put_all es ts)
map_of_more es [] is = is
map_of_more es (t ∷ ts) is = map_of_more (put t.0 t.1 es) ts (IsMap-put t.0 t.1 es is)

module _ (p : Parts) (es : List (ℕ × Member)) (t : Tree) (denote : EntriesDenote p es t)
    (ascend : keys_ascend (map (at_entry p) es) ≡ true) where
  -- the keys and the trees of a table's entries
  pub table_pairs : PairsStand p es
  table_pairs =
      ∥∥₁_elim denote (PairsStand-prop p es) (λ x. let (ts, n, d, is) = x in (ts, ∣ (n, d) ∣₁))

  -- are those of the table, where the keys ascend
  pub table_is : t ≡ table (entries_in t) → t ≡ table (entries_of table_pairs.0)
  table_is of_table = ∥∥₁_elim denote (Tree-set _ _) (λ x.
      let (ts, n, d, is) = x in
      of_table ∙ ap table (is ∙ map_of-sorted ts (sorted_pairs d ascend)
      ∙ ap entries_of (same_pairs p es ts table_pairs.0 ∣ (n, d) ∣₁ table_pairs.1)))

  pub table_is_map : IsMap (entries_of table_pairs.0)
  table_is_map = ∥∥₁_elim table_pairs.1 (T_prop _) (λ x.
      subst IsMap (map_of-sorted table_pairs.0 (sorted_pairs x.1 ascend))
      (map_of_more no_entries table_pairs.0 tt))

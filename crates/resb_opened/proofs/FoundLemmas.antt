-- Where keys ascend, that is found, if what is paid for it suffices.
use Rattle.std.proofs.Common.{◌≡◌, ◌≤◌, ◌+◌, ℕ, List, [], ◌∷◌, ◌++◌, Some, Bool, true, false, refl}
use Rattle.std.proofs.Common.{None}
use Rattle.std.proofs.Common.{sym, subst, ◌∙◌, map, arith}
use Rattle.std.specs.Prelude.{◌||◌}
use Rattle.std.proofs.lemmas.Bool.{false≢true}
use Rattle.resb_tree.specs.Tree.{Tree}
use Rattle.resb_format.specs.Content.{Member, word, leaf, list, entry_list, content_at}
use Rattle.resb_format.specs.Denotes.{Den, den_leaf, den_list, den_entries, DenMember, den_word}
use Rattle.resb_format.specs.Denotes as denotes
use Rattle.resb_format.specs.Denotes.{den_unit, DenEach, DenEntries, entries_none, entries_more}
use Rattle.resb_format.specs.Parts.{Parts}
use Rattle.resb_format.specs.Types as types
use Rattle.resb_format.proofs.Denoting.{same_list, same_entries, list_entries}
use Rattle.resb_read.specs.Leaves.{type_in}
use Rattle.resb_read.specs.Sequences.{at_entry}
use Rattle.resb_read.specs.Tables.{keys_ascend, price_of}
use Rattle.resb_opened.specs.Ordered.{Ordered, ordered_unit, ordered_leaf, ordered_list}
use Rattle.resb_opened.specs.Ordered.{ordered_entries, OrderedEach, each_none, each_more}
use Rattle.resb_opened.specs.Ordered.{collections_in, collections_of, key_price, price_of_each}
use Rattle.resb_opened.specs.Inner.Pending.{is_collection, AreCollections, FitsEach, FitsInside}
use Rattle.resb_opened.specs.Inner.Pending.{PendsMore}

neither : (a b : Bool) → a ≡ false → b ≡ false → (a || b) ≡ true → ⊥
neither false false h k e = false≢true e
neither false true h k e = false≢true (sym k)
neither true b h k e = false≢true (sym h)

-- a word of no collection's type is none of a collection
never_leaf : (w : ℕ) → types.is_table (type_in w) ≡ false → types.is_array (type_in w) ≡ false
    → is_collection w ≡ true → ⊥
never_leaf w a b e = neither (types.is_table (type_in w)) (types.is_array (type_in w)) a b e

module _ (p : Parts) where
  leaf_not_list : (w : ℕ) (t : Tree) (ms : List Member) → content_at p w ≡ Some (leaf t)
      → content_at p w ≡ Some (list ms) → ⊥
  leaf_not_list w t ms e f =
      let h : Some (leaf t) ≡ Some (list ms) = sym e ∙ f in cc

  leaf_not_entries : (w : ℕ) (t : Tree) (es : List (ℕ × Member)) → content_at p w ≡ Some (leaf t)
      → content_at p w ≡ Some (entry_list es) → ⊥
  leaf_not_entries w t es e f =
      let h : Some (leaf t) ≡ Some (entry_list es) = sym e ∙ f in cc

  -- a collection is looked at
  pub one_at_least : (w : ℕ) → is_collection w ≡ true → (o : Ordered p (word w))
      → 1 ≤ collections_in p o
  one_at_least w is (ordered_leaf a b) = absurd (never_leaf w a b is)
  one_at_least w is (ordered_list e os) = omega arith
  one_at_least w is (ordered_entries e k os) = omega arith

  -- what is inside an array
  pub list_inside : (w : ℕ) (ms : List Member) → is_collection w ≡ true
      → content_at p w ≡ Some (list ms) → (o : Ordered p (word w))
      → (os : OrderedEach p ms) × (collections_of p os + 1 ≤ collections_in p o)
      × (price_of_each p os ≤ key_price p o)
  list_inside w ms is e (ordered_leaf a b) = absurd (never_leaf w a b is)
  list_inside w ms is e (ordered_list f os) =
      subst
      (λ xs. (qs : OrderedEach p xs) × (collections_of p qs + 1 ≤ 1 + collections_of p os)
      × (price_of_each p qs ≤ price_of_each p os))
      (same_list f e) (os, omega arith, omega arith)
  list_inside w ms is e (ordered_entries f k os) = absurd (list_entries e f)

  -- what is inside a table, and its own keys
  pub table_inside : (w : ℕ) (es : List (ℕ × Member)) → is_collection w ≡ true
      → content_at p w ≡ Some (entry_list es) → (o : Ordered p (word w))
      → (os : OrderedEach p (map (λ e. e.1) es)) × (collections_of p os + 1 ≤ collections_in p o)
      × (price_of (map (at_entry p) es) + price_of_each p os ≤ key_price p o)
      × (keys_ascend (map (at_entry p) es) ≡ true)
  table_inside w es is e (ordered_leaf a b) = absurd (never_leaf w a b is)
  table_inside w es is e (ordered_list f os) = absurd (list_entries f e)
  table_inside w es is e (ordered_entries {es = fs} f k os) =
      subst
      (λ xs. (qs : OrderedEach p (map (λ e. e.1) xs))
      × (collections_of p qs + 1 ≤ 1 + collections_of p os)
      × (price_of (map (at_entry p) xs) + price_of_each p qs
      ≤ price_of (map (at_entry p) fs) + price_of_each p os)
      × (keys_ascend (map (at_entry p) xs) ≡ true))
      (same_entries f e) (os, omega arith, omega arith, k)

  -- one more that is pending
  pub behind : (ws : List ℕ) (w : ℕ) (os : OrderedEach p (map (λ x. word x) ws))
      (o : Ordered p (word w))
      → FitsEach p (map (λ x. word x) (ws ++ w ∷ [])) (collections_of p os + collections_in p o)
      (price_of_each p os + key_price p o)
  behind [] w each_none o = (each_more o each_none, omega arith, omega arith)
  behind (x ∷ ws) w (each_more a os) o =
      let (ns, c, q) = behind ws w os o in
      (each_more a ns, omega (arith, c), omega (arith, q))

  -- and the last one that is pending
  pub parted : (ws : List ℕ) (w : ℕ) (os : OrderedEach p (map (λ x. word x) (ws ++ w ∷ [])))
      → (rs : OrderedEach p (map (λ x. word x) ws)) × (o : Ordered p (word w))
      × (collections_of p rs + collections_in p o ≡ collections_of p os)
      × (price_of_each p rs + key_price p o ≡ price_of_each p os)
  parted [] w (each_more o each_none) = (each_none, o, omega arith, omega arith)
  parted (x ∷ ws) w (each_more a os) =
      let (rs, o, c, q) = parted ws w os in
      (each_more a rs, o, omega (arith, c), omega (arith, q))

  mutual
    -- no more collections stand there than resources
    word_counted : {w n : ℕ} {t : Tree} → Den p w t n → (o : Ordered p (word w))
        → collections_in p o ≤ n
    word_counted d (ordered_leaf a b) = omega arith
    word_counted {w} {n} {t} (den_leaf e) (ordered_list {ms = ms} f os) =
        absurd (leaf_not_list w t ms e f)
    word_counted {w} {n} {t} (den_leaf e) (ordered_entries {es = es} f k os) =
        absurd (leaf_not_entries w t es e f)
    word_counted (den_list e each) (ordered_list f os) =
        let (qs, same) = subst
        (λ xs. (qs : OrderedEach p xs) × (collections_of p qs ≡ collections_of p os))
        (same_list f e) (os, refl) in
        omega (arith, same, each_counted each qs)
    word_counted (den_list e each) (ordered_entries f k os) = absurd (list_entries e f)
    word_counted (den_entries e each) (ordered_list f os) = absurd (list_entries f e)
    word_counted (den_entries e each) (ordered_entries f k os) =
        let (qs, same) = subst
        (λ xs. (qs : OrderedEach p (map (λ e. e.1) xs))
        × (collections_of p qs ≡ collections_of p os))
        (same_entries f e) (os, refl) in
        omega (arith, same, entries_counted each qs)

    member_counted : {m : Member} {n : ℕ} {t : Tree} → DenMember p m t n → (o : Ordered p m)
        → collections_in p o ≤ n
    member_counted (den_word d) o = word_counted d o
    member_counted (den_unit e) ordered_unit = omega arith

    each_counted : {ms : List Member} {n : ℕ} {ts : List Tree} → DenEach p ms ts n
        → (os : OrderedEach p ms) → collections_of p os ≤ n
    each_counted denotes.each_none each_none = omega arith
    each_counted (denotes.each_more d ds) (each_more o os) =
        omega (arith, member_counted d o, each_counted ds os)

    entries_counted : {es : List (ℕ × Member)} {n : ℕ} {ts : List (List ℕ × Tree)}
        → DenEntries p es ts n → (os : OrderedEach p (map (λ e. e.1) es)) → collections_of p os ≤ n
    entries_counted entries_none each_none = omega arith
    entries_counted (entries_more key d ds) (each_more o os) =
        omega (arith, member_counted d o, entries_counted ds os)

  pub counted : (w n : ℕ) (t : Tree) → Den p w t n → (o : Ordered p (word w))
      → collections_in p o ≤ n
  counted w n t d o = word_counted d o

  -- a collection has something inside it
  pub never_nothing : (w : ℕ) → is_collection w ≡ true → content_at p w ≡ None
      → Ordered p (word w) → ⊥
  never_nothing w is e (ordered_leaf a b) = never_leaf w a b is
  never_nothing w is e (ordered_list {ms = ms} f os) =
      let h : None ≡ Some (list ms) = sym e ∙ f in cc
  never_nothing w is e (ordered_entries {es = es} f k os) =
      let h : None ≡ Some (entry_list es) = sym e ∙ f in cc

  pub never_tree : (w : ℕ) (t : Tree) → is_collection w ≡ true → content_at p w ≡ Some (leaf t)
      → Ordered p (word w) → ⊥
  never_tree w t is e (ordered_leaf a b) = never_leaf w a b is
  never_tree w t is e (ordered_list {ms = ms} f os) = leaf_not_list w t ms e f
  never_tree w t is e (ordered_entries {es = es} f k os) = leaf_not_entries w t es e f

  -- more may be looked at
  pub looser : (ms : List Member) (a b k n : ℕ) → FitsEach p ms a b → a ≤ k → b ≤ n
      → FitsEach p ms k n
  looser ms a b k n (os, c, q) less cheaper = (os, omega (arith, c, less), omega (arith, q, cheaper))

  -- a word that is put, and one that is left out
  pub pends_pushed : (old new : List ℕ) (w : ℕ) → new ≡ old ++ w ∷ []
      → PendsMore p old new (word w ∷ [])
  pends_pushed old new w e os (each_more o each_none) =
      subst
      (λ xs. FitsEach p (map (λ x. word x) xs) (collections_of p os + (collections_in p o + 0))
      (price_of_each p os + (key_price p o + 0)))
      (sym e)
      (let (ns, c, q) = behind old w os o in (ns, omega (arith, c), omega (arith, q)))

  pub pends_left : (old new : List ℕ) (w : ℕ) → new ≡ old → PendsMore p old new (word w ∷ [])
  pends_left old new w e os (each_more o each_none) =
      subst
      (λ xs. FitsEach p (map (λ x. word x) xs) (collections_of p os + (collections_in p o + 0))
      (price_of_each p os + (key_price p o + 0)))
      (sym e) (os, omega arith, omega arith)

  -- what is put where nothing was pending
  pub pends_first : (old new : List ℕ) (w most room : ℕ) → old ≡ []
      → PendsMore p old new (word w ∷ []) → (o : Ordered p (word w)) → collections_in p o ≤ most
      → key_price p o ≤ room → FitsEach p (map (λ x. word x) new) most room
  pends_first old new w most room e h o less cheaper =
      let first : PendsMore p [] new (word w ∷ []) =
      subst (λ xs. PendsMore p xs new (word w ∷ [])) e h in
      looser (map (λ x. word x) new) _ _ most room (first each_none (each_more o each_none))
      (omega (arith, less)) (omega (arith, cheaper))

  -- the first of several members, and the others
  pub first_of : (m : Member) (all ms : List Member) → all ≡ m ∷ ms → (os : OrderedEach p all)
      → (o : Ordered p m) × (rs : OrderedEach p ms)
      × (collections_in p o + collections_of p rs ≡ collections_of p os)
      × (key_price p o + price_of_each p rs ≡ price_of_each p os)
  first_of m all ms e =
      subst
      (λ xs. (os : OrderedEach p xs) → (o : Ordered p m) × (rs : OrderedEach p ms)
      × (collections_in p o + collections_of p rs ≡ collections_of p os)
      × (key_price p o + price_of_each p rs ≡ price_of_each p os))
      (sym e) split
    where
      split : (os : OrderedEach p (m ∷ ms)) → (o : Ordered p m) × (rs : OrderedEach p ms)
          × (collections_in p o + collections_of p rs ≡ collections_of p os)
          × (key_price p o + price_of_each p rs ≡ price_of_each p os)
      split (each_more o os) = (o, os, refl, refl)

  -- members of which some are still to come
  abbrev pub Left : (old now : List ℕ) (ms rest : List Member) → Type 0
  Left old now ms rest =
      (os : OrderedEach p (map (λ x. word x) old)) (rs : OrderedEach p ms)
      → (ns : OrderedEach p (map (λ x. word x) now)) × (later : OrderedEach p rest)
      × (collections_of p ns + collections_of p later ≤ collections_of p os + collections_of p rs)
      × (price_of_each p ns + price_of_each p later ≤ price_of_each p os + price_of_each p rs)

  pub left_word : (old now new : List ℕ) (w : ℕ) (ms rest later : List Member)
      → rest ≡ word w ∷ later → Left old now ms rest → PendsMore p now new (word w ∷ [])
      → Left old new ms later
  left_word old now new w ms rest later e h pends os rs =
      let (ns, ls, k, q) = h os rs in
      let (o, ts, c, d) = first_of (word w) rest later e ls in
      let (qs, l, m) = pends ns (each_more o each_none) in
      (qs, ts, omega (arith, k, c, l), omega (arith, q, d, m))

  pub left_unit : (old now : List ℕ) (m : Member) (ms rest later : List Member)
      → rest ≡ m ∷ later → Left old now ms rest → Left old now ms later
  left_unit old now m ms rest later e h os rs =
      let (ns, ls, k, q) = h os rs in
      let (o, ts, c, d) = first_of m rest later e ls in
      (ns, ts, omega (arith, k, c), omega (arith, q, d))

  pub left_none : (old : List ℕ) (ms : List Member) → Left old old ms ms
  left_none old ms os rs = (os, rs, omega arith, omega arith)

  pub left_all : (old now : List ℕ) (ms rest : List Member) → Left old now ms rest
      → PendsMore p old now ms
  left_all old now ms rest h os rs =
      let (ns, later, k, q) = h os rs in (ns, omega (arith, k), omega (arith, q))

  -- the last word that is pending
  pub last_pending : (all ws : List ℕ) (w k n : ℕ) → all ≡ ws ++ w ∷ []
      → FitsEach p (map (λ x. word x) all) k n
      → (rs : OrderedEach p (map (λ x. word x) ws)) × (o : Ordered p (word w))
      × (collections_of p rs + collections_in p o ≤ k)
      × (price_of_each p rs + key_price p o ≤ n)
  last_pending all ws w k n e h =
      let (os, c, q) = subst (λ xs. FitsEach p (map (λ x. word x) xs) k n) e h in
      let (rs, o, d, r) = parted ws w os in
      (rs, o, omega (arith, c, d), omega (arith, q, r))

  -- once it is looked at, what is inside it is pending, too
  pub next_fits : (all ws new : List ℕ) (w k n left room : ℕ) (inside : List Member)
      → all ≡ ws ++ w ∷ [] → FitsEach p (map (λ x. word x) all) k n → left + 1 ≡ k
      → ((o : Ordered p (word w)) → key_price p o ≤ n → FitsInside p o inside n room)
      → PendsMore p ws new inside → FitsEach p (map (λ x. word x) new) left room
  next_fits all ws new w k n left room inside e h less found pends =
      let (rs, o, c, q) = last_pending all ws w k n e h in
      let (os, d, r) = found o (omega (arith, q)) in
      looser (map (λ x. word x) new) _ _ left room (pends rs os) (omega (arith, c, d, less))
      (omega (arith, q, r))

  -- nothing is pending that isn't paid for
  pub never_spent : (all ws : List ℕ) (w n : ℕ) → all ≡ ws ++ w ∷ [] → is_collection w ≡ true
      → FitsEach p (map (λ x. word x) all) 0 n → ⊥
  never_spent all ws w n e is h =
      let (rs, o, c, q) = last_pending all ws w 0 n e h in
      omega (arith, c, one_at_least w is o)

-- what is found in the parts that were read is found in the file
pub found_there : (p q : Parts) (w v most room : ℕ) (b : Bool) → p ≡ q → w ≡ v
    → ((o : Ordered p (word w)) → collections_in p o ≤ most → key_price p o ≤ room → b ≡ true)
    → (t : Tree) → Den q v t most → (o : Ordered q (word v)) → key_price q o ≤ room → b ≡ true
found_there p q w v most room b same at found t d o fits =
    let Found : Parts → ℕ → Type 0 = λ r u. (x : Ordered r (word u)) → collections_in r x ≤ most
    → key_price r x ≤ room → b ≡ true in
    let there : Found q v = subst (λ u. Found q u) at (subst (λ r. Found r w) same found) in
    there o (counted q v most t d o) fits

-- words that are collections
pub pushed_kind : (ws : List ℕ) (w : ℕ) → AreCollections ws → is_collection w ≡ true
    → AreCollections (ws ++ w ∷ [])
pushed_kind [] w h is = (is, tt)
pushed_kind (x ∷ ws) w h is = (h.0, pushed_kind ws w h.1 is)

pub popped_kind : (ws : List ℕ) (w : ℕ) → AreCollections (ws ++ w ∷ [])
    → AreCollections ws × (is_collection w ≡ true)
popped_kind [] w h = (tt, h.0)
popped_kind (x ∷ ws) w h = let (rest, is) = popped_kind ws w h.1 in ((h.0, rest), is)

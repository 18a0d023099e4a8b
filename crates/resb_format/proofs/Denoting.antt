-- A word has at most one tree and count, and reaches no more resources than its tree has.
use Rattle.std.proofs.Common.{ℕ, List, ◌∷◌, Option, Some, ◌≡◌, ◌≤◌, ◌<◌, ◌+◌, ◌-◌, ◌⊎◌, inl}
use Rattle.std.proofs.Common.{inr}
use Rattle.std.proofs.Common.{refl, ap, subst, arith}
use Rattle.std.proofs.lemmas.Bool.{cases_lt}
use Rattle.resb_tree.specs.Tree.{Tree, string, array, table, trees_of, map_of}
use Rattle.resb_format.specs.Lookups.{key_in}
use Rattle.resb_format.specs.Parts.{Parts}
use Rattle.resb_format.specs.Content.{Member, Content, leaf, list, entry_list}
use Rattle.resb_format.specs.Denotes.{Den, den_leaf, den_list, den_entries, DenMember, den_word}
use Rattle.resb_format.specs.Denotes.{den_unit, DenEach, each_none, each_more, DenEntries}
use Rattle.resb_format.specs.Denotes.{entries_none}
use Rattle.resb_format.specs.Denotes.{entries_more, Reaches, reaches_one, reaches_list}
use Rattle.resb_format.specs.Denotes.{reaches_entries}
use Rattle.resb_format.specs.Denotes.{ReachesMember, reaches_word, reaches_unit, ReachesEach}
use Rattle.resb_format.specs.Denotes.{each_here, each_later, ReachesEntries, entries_here}
use Rattle.resb_format.specs.Denotes.{entries_later}
use Rattle.resb_format.proofs.Lists.{same_some}

-- a content is one leaf at most
pub same_leaf : {o : Option Content} {t u : Tree} → o ≡ Some (leaf t) → o ≡ Some (leaf u) → t ≡ u
same_leaf e f = cc

-- a content is one list at most
pub same_list : {o : Option Content} {ms ns : List Member} → o ≡ Some (list ms) → o ≡ Some (list ns)
    → ms ≡ ns
same_list e f = cc

-- a content is the entries of one table at most
pub same_entries : {o : Option Content} {es fs : List (ℕ × Member)} → o ≡ Some (entry_list es)
    → o ≡ Some (entry_list fs) → es ≡ fs
same_entries e f = cc

-- a content is never both a leaf and a list
pub leaf_list : {o : Option Content} {t : Tree} {ms : List Member} → o ≡ Some (leaf t)
    → o ≡ Some (list ms) → ⊥
leaf_list e f = cc

-- a content is never both a leaf and the entries of a table
pub leaf_entries : {o : Option Content} {t : Tree} {es : List (ℕ × Member)} → o ≡ Some (leaf t)
    → o ≡ Some (entry_list es) → ⊥
leaf_entries e f = cc

-- a content is never both a list and the entries of a table
pub list_entries : {o : Option Content} {ms : List Member} {es : List (ℕ × Member)}
    → o ≡ Some (list ms) → o ≡ Some (entry_list es) → ⊥
list_entries e f = cc

module _ (p : Parts) where
  mutual
    -- a word denotes one tree at most, with one count
    pub unique : {w m n : ℕ} {t s : Tree} → Den p w t m → Den p w s n → (t ≡ s) × (m ≡ n)
    unique (den_leaf e) (den_leaf f) = (same_leaf e f, refl)
    unique (den_leaf e) (den_list f g) = absurd (leaf_list e f)
    unique (den_leaf e) (den_entries f g) = absurd (leaf_entries e f)
    unique (den_list e d) (den_leaf f) = absurd (leaf_list f e)
    unique (den_list e d) (den_list {n = n'} {ts = ts'} f g) =
        let h = unique_each d (subst (λ ms. DenEach p ms ts' n') (same_list f e) g) in
        (ap (λ ts. array (trees_of ts)) h.0, ap (λ k. 1 + k) h.1)
    unique (den_list e d) (den_entries f g) = absurd (list_entries e f)
    unique (den_entries e d) (den_leaf f) = absurd (leaf_entries f e)
    unique (den_entries e d) (den_list f g) = absurd (list_entries f e)
    unique (den_entries e d) (den_entries {n = n'} {ts = ts'} f g) =
        let h = unique_entries d (subst (λ es. DenEntries p es ts' n') (same_entries f e) g) in
        (ap (λ ts. table (map_of ts)) h.0, ap (λ k. 1 + k) h.1)

    -- a member denotes one tree at most, with one count
    pub unique_member : {x : Member} {m n : ℕ} {t s : Tree} → DenMember p x t m → DenMember p x s n
        → (t ≡ s) × (m ≡ n)
    unique_member (den_word d) (den_word e) = unique d e
    unique_member (den_unit e) (den_unit f) = (ap string (same_some e f), refl)

    unique_each : {ms : List Member} {m n : ℕ} {ts ss : List Tree} → DenEach p ms ts m
        → DenEach p ms ss n → (ts ≡ ss) × (m ≡ n)
    unique_each each_none each_none = (refl, refl)
    unique_each (each_more d ds) (each_more e es) =
        let h = unique_member d e in
        let k = unique_each ds es in
        (λ i. h.0 i ∷ k.0 i, λ i. h.1 i + k.1 i)

    unique_entries : {es : List (ℕ × Member)} {m n : ℕ} {ts ss : List (List ℕ × Tree)}
        → DenEntries p es ts m → DenEntries p es ss n → (ts ≡ ss) × (m ≡ n)
    unique_entries entries_none entries_none = (refl, refl)
    unique_entries (entries_more j d ds) (entries_more k e es) =
        let h = unique_member d e in
        let key = same_some j k in
        let rest = unique_entries ds es in
        (λ i. (key i, h.0 i) ∷ rest.0 i, λ i. h.1 i + rest.1 i)

  mutual
    -- what is reached from a word is at most the count of the tree there
    pub reached_at_most : {w m n : ℕ} {t : Tree} → Den p w t n → Reaches p w m → m ≤ n
    reached_at_most (den_leaf e) reaches_one = omega arith
    reached_at_most (den_leaf e) (reaches_list f r) = absurd (leaf_list e f)
    reached_at_most (den_leaf e) (reaches_entries f r) = absurd (leaf_entries e f)
    reached_at_most (den_list e d) reaches_one = omega arith
    reached_at_most (den_list e d) (reaches_list {n = n'} f r) =
        let h = counted_each d (subst (λ ms. ReachesEach p ms n') (same_list f e) r) in omega arith
    reached_at_most (den_list e d) (reaches_entries f r) = absurd (list_entries e f)
    reached_at_most (den_entries e d) reaches_one = omega arith
    reached_at_most (den_entries e d) (reaches_list f r) = absurd (list_entries f e)
    reached_at_most (den_entries e d) (reaches_entries {n = n'} f r) =
        let h = counted_entries d (subst (λ es. ReachesEntries p es n') (same_entries f e) r) in
        omega arith

    -- what is reached from a member is at most the count of the tree there
    pub counted_member : {x : Member} {m n : ℕ} {t : Tree} → DenMember p x t n → ReachesMember p x m
        → m ≤ n
    counted_member (den_word d) (reaches_word r) = reached_at_most d r
    counted_member (den_unit e) reaches_unit = omega arith

    counted_each : {ms : List Member} {m n : ℕ} {ts : List Tree} → DenEach p ms ts n
        → ReachesEach p ms m → m ≤ n
    counted_each each_none r = elim r [ ]
    counted_each (each_more d ds) (each_here r) = let h = counted_member d r in omega arith
    counted_each (each_more d ds) (each_later e r) =
        let h = unique_member d e in let k = counted_each ds r in let q = h.1 in omega arith

    counted_entries : {es : List (ℕ × Member)} {m n : ℕ} {ts : List (List ℕ × Tree)}
        → DenEntries p es ts n → ReachesEntries p es m → m ≤ n
    counted_entries entries_none r = elim r [ ]
    counted_entries (entries_more j d ds) (entries_here k r) =
        let h = counted_member d r in omega arith
    counted_entries (entries_more j d ds) (entries_later k e r) =
        let h = unique_member d e in let rest = counted_entries ds r in let q = h.1 in omega arith

  some_more : {w m n : ℕ} → ((k : ℕ) → 1 ≤ k → k ≤ n → Reaches p w (1 + k)) → 1 ≤ m → m ≤ 1 + n
      → Reaches p w m
  some_more {w} {m} {n} more h k = at (cases_lt 1 m)
    where
      at : (1 < m) ⊎ (m ≤ 1) → Reaches p w m
      at (inl large) =
          let e : 1 + (m - 1) ≡ m = omega arith in
          subst (Reaches p w) e (more (m - 1) (omega arith) (omega arith))
      at (inr small) = let e : 1 ≡ m = omega arith in subst (Reaches p w) e reaches_one

  -- in the first member, or behind it
  in_each : (x : Member) (j : ℕ) (ms : List Member) (m : ℕ) {t : Tree} → 1 ≤ m → DenMember p x t j
      → (m ≤ j → ReachesMember p x m) → (j < m → ReachesEach p ms (m - j))
      → ReachesEach p (x ∷ ms) m
  in_each x j ms m h d here later = elim (cases_lt j m) as (λ c. ReachesEach p (x ∷ ms) m) [
    | inl g ↦
        (let e : j + (m - j) ≡ m = omega (arith, g) in
        subst (ReachesEach p (x ∷ ms)) e (each_later d (later g)))
    | inr g ↦ each_here (here g)
  ]

  in_entries : (x : Member) (at j : ℕ) (es : List (ℕ × Member)) (m : ℕ) {key : List ℕ} {t : Tree}
      → 1 ≤ m → key_in p at ≡ Some key → DenMember p x t j
      → (m ≤ j → ReachesMember p x m) → (j < m → ReachesEntries p es (m - j))
      → ReachesEntries p ((at, x) ∷ es) m
  in_entries x at j es m h key d here later =
      elim (cases_lt j m) as (λ c. ReachesEntries p ((at, x) ∷ es) m) [
        | inl g ↦
            (let e : j + (m - j) ≡ m = omega (arith, g) in
            subst (ReachesEntries p ((at, x) ∷ es)) e (entries_later key d (later g)))
        | inr g ↦ entries_here key (here g)
      ]

  -- a word that denotes a tree reaches each number up to its count
  mutual
    pub reached : {w n : ℕ} {t : Tree} → Den p w t n → (m : ℕ) → 1 ≤ m → m ≤ n → Reaches p w m
    reached (den_leaf e) m h k =
        let one : 1 ≡ m = omega arith in subst (Reaches p _) one reaches_one
    reached (den_list e d) m h k = some_more (λ j g f. reaches_list e (reached_each d j g f)) h k
    reached (den_entries e d) m h k =
        some_more (λ j g f. reaches_entries e (reached_entries d j g f)) h k

    pub reached_member : {x : Member} {n : ℕ} {t : Tree} → DenMember p x t n → (m : ℕ) → 1 ≤ m
        → m ≤ n → ReachesMember p x m
    reached_member (den_word d) m h k = reaches_word (reached d m h k)
    reached_member (den_unit e) m h k =
        let one : 1 ≡ m = omega arith in subst (ReachesMember p _) one reaches_unit

    reached_each : {ms : List Member} {n : ℕ} {ts : List Tree} → DenEach p ms ts n → (m : ℕ) → 1 ≤ m
        → m ≤ n → ReachesEach p ms m
    reached_each each_none m h k = absurd (omega arith)
    reached_each (each_more {m = x} {j = j'} {ms = ms'} d ds) m h k =
        in_each x j' ms' m h d (λ g. reached_member d m h g)
        (λ g. reached_each ds (m - j') (omega arith) (omega arith))

    reached_entries : {es : List (ℕ × Member)} {n : ℕ} {ts : List (List ℕ × Tree)}
        → DenEntries p es ts n → (m : ℕ) → 1 ≤ m → m ≤ n → ReachesEntries p es m
    reached_entries entries_none m h k = absurd (omega arith)
    reached_entries (entries_more {m = x} {at = at'} {j = j'} {es = es'} key d ds) m h k =
        in_entries x at' j' es' m h key d (λ g. reached_member d m h g)
        (λ g. reached_entries ds (m - j') (omega arith) (omega arith))

  -- what is reached is reached with fewer resources too
  mutual
    pub lower : {w n : ℕ} → Reaches p w n → (m : ℕ) → 1 ≤ m → m ≤ n → Reaches p w m
    lower reaches_one m h k = let one : 1 ≡ m = omega arith in subst (Reaches p _) one reaches_one
    lower (reaches_list e r) m h k = some_more (λ j g f. reaches_list e (lower_each r j g f)) h k
    lower (reaches_entries e r) m h k =
        some_more (λ j g f. reaches_entries e (lower_entries r j g f)) h k

    pub lower_member : {x : Member} {n : ℕ} → ReachesMember p x n → (m : ℕ) → 1 ≤ m → m ≤ n
        → ReachesMember p x m
    lower_member (reaches_word r) m h k = reaches_word (lower r m h k)
    lower_member reaches_unit m h k =
        let one : 1 ≡ m = omega arith in subst (ReachesMember p _) one reaches_unit

    lower_each : {ms : List Member} {n : ℕ} → ReachesEach p ms n → (m : ℕ) → 1 ≤ m → m ≤ n
        → ReachesEach p ms m
    lower_each (each_here r) m h k = each_here (lower_member r m h k)
    lower_each (each_later {m = x} {j = j'} {ms = ms'} d r) m h k =
        in_each x j' ms' m h d (λ g. reached_member d m h g)
        (λ g. lower_each r (m - j') (omega arith) (omega arith))

    lower_entries : {es : List (ℕ × Member)} {n : ℕ} → ReachesEntries p es n → (m : ℕ) → 1 ≤ m
        → m ≤ n
        → ReachesEntries p es m
    lower_entries (entries_here key r) m h k = entries_here key (lower_member r m h k)
    lower_entries (entries_later {m = x} {at = at'} {j = j'} {es = es'} key d r) m h k =
        in_entries x at' j' es' m h key d (λ g. reached_member d m h g)
        (λ g. lower_entries r (m - j') (omega arith) (omega arith))

-- Open tables: how they go on, what stays while a draft grows, and how they stand in each other.
use Rattle.std.proofs.Common.{◌≡◌, ℕ, ◌+◌, ◌*◌, ◌<◌, ◌≤◌, true, false, List, [], ◌∷◌, ◌++◌}
use Rattle.std.proofs.Common.{Bor, refl, sym, ap, ◌∙◌, subst, arith, length, get_or, take, drop}
use Rattle.std.specs.Prelude.{Some, None, map}
use Rattle.std.proofs.lemmas.List.{drop_more, drop-map, get_or_read, take_all}
use Rattle.resb_tree.specs.Borrowing.{all_true}
use Rattle.resb_tree.specs.Tree.{Tree, tree_count, entries_count, entries_of, table}
use Rattle.resb_tree.specs.Tree.{map_of}
use Rattle.resb_tree.proofs.LayingOrderLemmas.{tree_count_is}
use Rattle.resb_draft.specs.Drafts.{tree_at, is_whole, IsMade, Keeps}
use Rattle.resb_draft.specs.declared.draft.Draft.{Draft}
use Rattle.resb_draft.proofs.Standing.{keeps_on}
use Rattle.resb_filter.specs.Filtered.{Rule, filtered, below, verdict, by_verdict, entry_left}
use Rattle.resb_filter.specs.Inner.Entries.{seen, AreEntries, StaysAs, is_table}
use Rattle.resb_filter.specs.Inner.Left.{LeftSoFar}
use Rattle.resb_filter.specs.Inner.Open.{IsOpen, Waits, Opens, own_rules, next_entry}
use Rattle.resb_filter.specs.Inner.Open.{nothing_there, twice_count, weight, weight_behind}
use Rattle.resb_filter.specs.declared.open_tables.OpenTable.{OpenTable}
use Rattle.resb_filter.specs.View.{rules_left}
use Rattle.resb_filter.specs.declared.remaining.Remaining.{Remaining}
use Rattle.resb_filter.specs.declared.remaining.Verdict.TheVariants.{Whole, Out, Partly}
use Rattle.resb_filter.proofs.TableLemmas.{entries_on, entry_whole, left_start, stays_more}
use Rattle.resb_filter.proofs.TableLemmas.{goes_more, none_filtered, left_on, left_made}

-- a draft is kept as it is
pub keeps_same : (d : Draft) → Keeps d d
keeps_same d n h = (refl, h)

-- what is left of a table stays while the draft grows
abbrev pub open_on : {d e : Draft} {w : Tree} {t : OpenTable} → Keeps d e → IsOpen d w t
    → IsOpen e w t
open_on {d} {e} {w} {t} k o = record {
  start = o.start;
  number = o.number;
  are = o.are;
  so = left_on o.start d e _ _ _ k o.so;
  becomes = o.becomes;
}

pub waits_on : {d e : Draft} {w u : Tree} {t : OpenTable} → Keeps d e → Waits d w u t
    → Waits e w u t
waits_on k h = record { own = open_on k h.own; within = h.within; stays = h.stays }

-- and its entries weigh the same
seen_on : (d e : Draft) {w : Tree} {t : OpenTable} → Keeps d e → IsOpen d w t
    → seen (tree_at e) t.entries.items ≡ seen (tree_at d) t.entries.items
seen_on d e {t = t} k o =
    let old = entries_on o.start d o.so.keeps t.entries.items o.are.whole in
    let new = entries_on o.start e (keeps_on o.start d e o.so.keeps k) t.entries.items o.are.whole
    in new.0 ∙ sym old.0

pub behind_on : (d e : Draft) {w : Tree} {t : OpenTable} → Keeps d e → IsOpen d w t
    → weight_behind e t ≡ weight_behind d t
behind_on d e {t = t} k o = ap (λ ps. 1 + twice_count (drop (t.done + 1) ps)) (seen_on d e k o)

-- of the outermost of tables the first tree is left; each waits for what is left of the next one,
-- and the last for the second tree
abbrev pub Around : Draft → Tree → Tree → List OpenTable → Type 0
Around d w u [] = w ≡ u
Around d w u (t ∷ ts) = (v : Tree) × Waits d w v t × Around d v u ts

pub around_push : (d : Draft) (w v u : Tree) (ts : List OpenTable) (t : OpenTable)
    → Around d w v ts → Waits d v u t → Around d w u (ts ++ t ∷ [])
around_push d w v u [] t a h = (u, subst (λ x. Waits d x u t) (sym a) h, refl)
around_push d w v u (s ∷ ts) t a h = (a.0, a.1, around_push d a.0 v u ts t a.2 h)

pub around_pop : (d : Draft) (w u : Tree) (ts : List OpenTable) (t : OpenTable)
    → Around d w u (ts ++ t ∷ []) → (v : Tree) × Around d w v ts × Waits d v u t
around_pop d w u [] t a = (w, refl, subst (λ x. Waits d w x t) a.2 a.1)
around_pop d w u (s ∷ ts) t a =
    let rest = around_pop d a.0 u ts t a.2 in (rest.0, (a.0, a.1, rest.1), rest.2)

pub around_none : (d : Draft) (w u : Tree) (ts : List OpenTable) → length ts ≡ 0
    → Around d w u ts → w ≡ u
around_none d w u [] h a = a
around_none d w u (t ∷ ts) h a = absurd (omega (arith, h))

pub around_on : (d e : Draft) (w u : Tree) (ts : List OpenTable) → Keeps d e → Around d w u ts
    → Around e w u ts
around_on d e w u [] k a = a
around_on d e w u (t ∷ ts) k a = (a.0, waits_on k a.1, around_on d e a.0 u ts k a.2)

-- what is to be done in tables behind what they wait for
abbrev pub weights : Draft → List OpenTable → ℕ
weights d [] = 0
weights d (t ∷ ts) = weight_behind d t + weights d ts

pub weights_push : (d : Draft) (ts : List OpenTable) (t : OpenTable)
    → weights d (ts ++ t ∷ []) ≡ weights d ts + weight_behind d t
weights_push d [] t = omega arith
weights_push d (s ∷ ts) t = omega (arith, weights_push d ts t)

pub weights_on : (d e : Draft) (w u : Tree) (ts : List OpenTable) → Keeps d e → Around d w u ts
    → weights e ts ≡ weights d ts
weights_on d e w u [] k a = refl
weights_on d e w u (t ∷ ts) k a =
    let waits = a.1 in
    omega (arith, behind_on d e k waits.own, weights_on d e a.0 u ts k a.2)

count_twice : (ps : List (List ℕ × Tree)) → twice_count ps ≡ 2 * entries_count (entries_of ps)
count_twice [] = refl
count_twice (p ∷ ps) = omega (arith, count_twice ps)

-- a table that is opened
pub opened : (d : Draft) (n : ℕ) (t : OpenTable) → AreEntries d n t.entries.items → t.done ≡ 0
    → t.left.items ≡ [] → Opens d (own_rules t) n t
opened d n t are none nothing =
    let f = entry_left (own_rules t) in
    let es = t.entries.items in
    let ps = seen (tree_at d) es in
    record {
      own = record {
        start = d;
        number = n;
        are = are;
        so = subst (λ k. LeftSoFar d d f (take k es) t.left.items) (sym none)
            (subst (LeftSoFar d d f []) (sym nothing) (left_start d f));
        becomes = refl;
      };
      small = omega (
        arith,
        ap (λ k. twice_count (drop k ps)) none,
        count_twice ps,
        ap tree_count are.tree,
      );
    }

-- the weight of the next entry
next_weighs : (d : Draft) (t : OpenTable) → t.done < length t.entries.items
    → weight d t ≡ 2 * tree_count (tree_at d (next_entry t).1) + weight_behind d t
next_weighs d t lt =
    let es = t.entries.items in
    let show : Bor (List ℕ) × ℕ → List ℕ × Tree = λ p. (p.0.now, tree_at d p.1) in
    let is : drop t.done (seen (tree_at d) es)
    ≡ show (next_entry t) ∷ drop (t.done + 1) (seen (tree_at d) es) =
    drop-map show t.done es ∙ ap (map show) (drop_more es t.done nothing_there lt)
    ∙ ap (λ l. show (next_entry t) ∷ l) (sym (drop-map show (t.done + 1) es)) in
    omega (arith, ap twice_count is)

pub behind_less : (d : Draft) (t : OpenTable) → t.done < length t.entries.items
    → weight_behind d t < weight d t
behind_less d t lt =
    omega (arith, next_weighs d t lt, tree_count_is (tree_at d (next_entry t).1))

-- the entry that is read, and the rules for it
pub next_is : (t : OpenTable) (x : Bor (List ℕ) × ℕ) → t.done < length t.entries.items
    → x ≡ get_or t.entries.items t.done x → x ≡ next_entry t
next_is t x lt read = get_or_read t.entries.items t.done x lt read nothing_there

pub told : (t : OpenTable) (x : Bor (List ℕ) × ℕ) → x ≡ next_entry t
    → (rs found : List Remaining) → rs ≡ t.rules.items
    → rules_left found ≡ below x.0.now (rules_left rs)
    → rules_left found ≡ below (next_entry t).0.now (own_rules t)
told t x is rs found e f = f ∙ (λ i. below (is i).0.now (rules_left (e i)))

-- the value of the next entry is whole where the entries stood, and stands for the same tree now
pub next_whole : {d : Draft} {w : Tree} (t : OpenTable) (o : IsOpen d w t)
    → t.done < length t.entries.items → is_whole o.start (next_entry t).1 ≡ true
next_whole t o lt = entry_whole o.start t.entries.items t.done nothing_there o.are.whole lt

pub next_made : {d : Draft} {w : Tree} (t : OpenTable) (o : IsOpen d w t)
    → t.done < length t.entries.items
    → IsMade d (next_entry t).1 (tree_at o.start (next_entry t).1)
next_made t o lt = o.so.keeps (next_entry t).1 (next_whole t o lt)

-- the table whose next entry is done, with what is left then
abbrev pub behind_next : OpenTable → OpenTable → OpenTable
behind_next t s = record {
  rules = t.rules;
  entries = t.entries;
  done = s.done;
  left = s.left;
}

-- of the next entry the piece is left for which the table waits
pub put_next : (d : Draft) (w u : Tree) (t s : OpenTable) (n : ℕ) → Waits d w u t → IsMade d n u
    → s.done ≡ t.done + 1 → s.left.items ≡ t.left.items ++ ((next_entry t).0, n) ∷ []
    → IsOpen d w (behind_next t s)
put_next d w u t s n h made done left =
    let o = h.own in
    let f = entry_left (own_rules t) in
    let es = t.entries.items in
    let same = (next_made t o h.within).0 in
    let stays : StaysAs d (f (next_entry t).0.now (tree_at d (next_entry t).1)) (Some n) =
    subst (λ x. StaysAs d x (Some n))
    (sym (ap (f (next_entry t).0.now) same ∙ h.stays)) made in
    record {
      start = o.start;
      number = o.number;
      are = o.are;
      so = subst (λ k. LeftSoFar o.start d f (take k es) s.left.items) (sym done)
          (stays_more o.start d d f es t.done nothing_there t.left.items s.left.items (Some n) n
          h.within o.so o.are.whole (keeps_same d) stays refl left);
      becomes = o.becomes;
    }

-- of the next entry nothing is left
pub pass_next : (d : Draft) (w : Tree) (t s : OpenTable) → IsOpen d w t
    → t.done < length t.entries.items
    → verdict (below (next_entry t).0.now (own_rules t)) ≡ Out
    → s.done ≡ t.done + 1 → s.left.items ≡ t.left.items → IsOpen d w (behind_next t s)
pass_next d w t s o lt out done left =
    let f = entry_left (own_rules t) in
    let es = t.entries.items in
    let k = (next_entry t).0.now in
    let v = tree_at d (next_entry t).1 in
    let goes : StaysAs d (f k v) None =
    subst (λ b. StaysAs d (by_verdict b v (filtered (below k (own_rules t)) v)) None) (sym out) tt
    in
    record {
      start = o.start;
      number = o.number;
      are = o.are;
      so = subst (λ j. LeftSoFar o.start d f (take j es) s.left.items) (sym done)
          (goes_more o.start d d f es t.done nothing_there t.left.items s.left.items None lt o.so
          o.are.whole (keeps_same d) goes refl left);
      becomes = o.becomes;
    }

-- the next entry stays as it is, since the rules say so
pub waits_whole : (d : Draft) (w : Tree) (t : OpenTable) (o : IsOpen d w t)
    → t.done < length t.entries.items
    → verdict (below (next_entry t).0.now (own_rules t)) ≡ Whole
    → Waits d w (tree_at o.start (next_entry t).1) t
waits_whole d w t o lt whole =
    let v = tree_at o.start (next_entry t).1 in
    let rs = below (next_entry t).0.now (own_rules t) in
    record {
      own = o;
      within = lt;
      stays = ap (λ b. by_verdict b v (filtered rs v)) whole;
    }

-- the rules leave a part of its value
pub waits_partly : (d : Draft) (w : Tree) (t : OpenTable) (o : IsOpen d w t)
    → t.done < length t.entries.items
    → verdict (below (next_entry t).0.now (own_rules t)) ≡ Partly
    → Waits d w (filtered (below (next_entry t).0.now (own_rules t))
    (tree_at o.start (next_entry t).1)) t
waits_partly d w t o lt partly =
    let v = tree_at o.start (next_entry t).1 in
    let rs = below (next_entry t).0.now (own_rules t) in
    record {
      own = o;
      within = lt;
      stays = ap (λ b. by_verdict b v (filtered rs v)) partly;
    }

-- which is all of it where it is no table
pub waits_no_table : (d : Draft) (w : Tree) (t : OpenTable) (o : IsOpen d w t)
    → t.done < length t.entries.items
    → verdict (below (next_entry t).0.now (own_rules t)) ≡ Partly
    → is_table (tree_at d (next_entry t).1) ≡ false
    → Waits d w (tree_at o.start (next_entry t).1) t
waits_no_table d w t o lt partly none =
    let v = tree_at o.start (next_entry t).1 in
    let rs = below (next_entry t).0.now (own_rules t) in
    let same : is_table v ≡ false = ap is_table (sym (next_made t o lt).0) ∙ none in
    subst (λ u. Waits d w u t) (none_filtered rs v same) (waits_partly d w t o lt partly)

-- the table of its value that was opened
pub waits_inner : (d : Draft) (w : Tree) (t inner : OpenTable) (rs : List Rule)
    → (o : IsOpen d w t) → t.done < length t.entries.items
    → verdict (below (next_entry t).0.now (own_rules t)) ≡ Partly
    → rs ≡ below (next_entry t).0.now (own_rules t) → Opens d rs (next_entry t).1 inner
    → (u : Tree) × Waits d w u t × IsOpen d u inner
waits_inner d w t inner rs o lt partly is opens = (
  filtered (below (next_entry t).0.now (own_rules t)) (tree_at o.start (next_entry t).1),
  waits_partly d w t o lt partly,
  subst (λ u. IsOpen d u inner) (λ i. filtered (is i) ((next_made t o lt).0 i)) opens.own,
)

pub inner_less : (d : Draft) (t inner : OpenTable) (rs : List Rule)
    → t.done < length t.entries.items → Opens d rs (next_entry t).1 inner
    → weight d inner + weight_behind d t < weight d t
inner_less d t inner rs lt opens = omega (arith, next_weighs d t lt, opens.small)

-- the tree that is left of a table that is done
pub done_made : (d : Draft) (w : Tree) (t : OpenTable) (left : List (Bor (List ℕ) × ℕ))
    → IsOpen d w t → length t.entries.items ≤ t.done → left ≡ t.left.items
    → (table (map_of (seen (tree_at d) left)) ≡ w)
    × (all_true (map (λ (p : Bor (List ℕ) × ℕ). is_whole d p.1) left) ≡ true)
done_made d w t left o done is =
    let f = entry_left (own_rules t) in
    let so = subst (λ l. LeftSoFar o.start d f l left) (take_all t.done t.entries.items done)
    (subst (LeftSoFar o.start d f (take t.done t.entries.items)) (sym is) o.so) in (
      left_made o.start d o.number (own_rules t) t.entries.items left o.are so ∙ o.becomes,
      so.whole,
    )

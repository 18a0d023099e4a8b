-- A tree has no more pieces than are read at its word, and the same where no entry is replaced.
use Rattle.std.proofs.Common.{ℕ, List, [], ◌∷◌, ◌++◌, ◌≡◌, ◌≤◌, ◌+◌, ◌⊎◌, inl, inr, refl, ap, ◌∙◌}
use Rattle.std.proofs.Common.{arith, Some}
use Rattle.std.specs.Prelude.{sum_by}
use Rattle.std.specs.Ordering.{match_ordering, nat_cmp}
use Rattle.std.proofs.Common.{Ordering, Less, Equal, Greater}
use Rattle.std.specs.Cmp.Lexicographic.{slice_cmp}
use Rattle.std.proofs.lemmas.List.Sums.{sum_by-cons, sum_by-append}
use Rattle.resb_tree.specs.Tree.{Tree, string, alias, array, table, binary, integer, int_vector}
use Rattle.resb_tree.specs.Tree.{Entries, no_entries, entry, trees_of, map_of, put, put_all}
use Rattle.resb_tree.specs.Tree.{tree_count, trees_count, entries_count}
use Rattle.resb_format.specs.Parts.{Parts}
use Rattle.resb_format.specs.Content.{Member, leaf, content_at}
use Rattle.resb_format.specs.Denotes.{Den, den_leaf, den_list, den_entries, DenMember, den_word}
use Rattle.resb_format.specs.Denotes.{den_unit, DenEach, each_none, each_more, DenEntries}
use Rattle.resb_format.specs.Denotes.{entries_none}
use Rattle.resb_format.specs.Denotes.{entries_more}
use Rattle.resb_tree.specs.Inner.Dropping.{IsNoCollection}
use Rattle.resb_format.proofs.Mapped.{content_leaf}
use Rattle.resb_walk.specs.Pieces.{Piece, leaf_piece, array_piece, table_piece, key_piece}
use Rattle.resb_walk.specs.Pieces.{Holds, HoldsMember}
use Rattle.resb_walk.specs.Pieces.{holds_word, holds_unit, HoldsEach, holds_none, holds_more}
use Rattle.resb_walk.specs.Pieces.{HoldsEachEntry, holds_no_entry, holds_entry, filled_table}
use Rattle.resb_walk.specs.Pieces.{pieces, pieces_of_each, pieces_of_entries, entries_piece}
use Rattle.resb_walk.proofs.Holding.{leaf_holds, list_holds, entries_hold}
use Rattle.resb_format.proofs.Lists.{same_some}

-- a is at most b, and c at most d; and a is b, or c is less than d
pub record Within (a b c d : ℕ) : Type 0 where
  pub first : a ≤ b
  pub second : c ≤ d
  pub either : (a ≡ b) ⊎ (c + 1 ≤ d)

same_within : (a c : ℕ) → Within a a c c
same_within a c = record { first = omega arith; second = omega arith; either = inl refl }

both_within : {a b c d e f g h : ℕ} → Within a b c d → Within e f g h
    → Within (a + e) (b + f) (c + g) (d + h)
both_within {a} {b} {c} {d} {e} {f} {g} {h} x y = record {
  first = omega (arith, x.first, y.first);
  second = omega (arith, x.second, y.second);
  either = cases x.either y.either;
}
  where
    cases : (a ≡ b) ⊎ (c + 1 ≤ d) → (e ≡ f) ⊎ (g + 1 ≤ h)
        → (a + e ≡ b + f) ⊎ (c + g + 1 ≤ d + h)
    cases (inl i) (inl j) = inl (omega (arith, i, j))
    cases (inr i) j = inr (omega (arith, i, y.second))
    cases (inl i) (inr j) = inr (omega (arith, x.second, j))

-- one chain of such numbers, over equal ends
then_within : {a b c d e f : ℕ} → Within a b c d → Within b e d f → Within a e c f
then_within {a} {b} {c} {d} {e} {f} x y = record {
  first = omega (arith, x.first, y.first);
  second = omega (arith, x.second, y.second);
  either = cases x.either y.either;
}
  where
    cases : (a ≡ b) ⊎ (c + 1 ≤ d) → (b ≡ e) ⊎ (d + 1 ≤ f) → (a ≡ e) ⊎ (c + 1 ≤ f)
    cases (inl i) (inl j) = inl (omega (arith, i, j))
    cases (inr i) j = inr (omega (arith, i, y.second))
    cases (inl i) (inr j) = inr (omega (arith, x.second, j))

as_within : {a b c d : ℕ} (e f g h : ℕ) → e ≡ a → f ≡ b → g ≡ c → h ≡ d → Within a b c d
    → Within e f g h
as_within e f g h i j k l w = rw (i, j, k, l) w

-- a leaf is one piece, and one resource
leaf_piece_of : (t : Tree) → IsNoCollection t → (pieces t ≡ leaf_piece t ∷ []) × (tree_count t ≡ 1)
leaf_piece_of (string s) h = (refl, refl)
leaf_piece_of (alias s) h = (refl, refl)
leaf_piece_of (array ts) h = absurd h
leaf_piece_of (table es) h = absurd h
leaf_piece_of (binary s) h = (refl, refl)
leaf_piece_of (integer n) h = (refl, refl)
leaf_piece_of (int_vector ns) h = (refl, refl)

one_at_least : (t : Tree) → 1 ≤ tree_count t
one_at_least (string s) = omega arith
one_at_least (alias s) = omega arith
one_at_least (array ts) = omega arith
one_at_least (table es) = omega arith
one_at_least (binary s) = omega arith
one_at_least (integer n) = omega arith
one_at_least (int_vector s) = omega arith

-- what is put is an entry
put_fills : (k : List ℕ) (t : Tree) (es : Entries) → entries_piece (put k t es) ≡ filled_table
put_fills k t no_entries = refl
put_fills k t (entry l u es) = cases (slice_cmp nat_cmp k l)
  where
    cases : (o : Ordering)
        → entries_piece (match_ordering o (entry k t (entry l u es)) (entry l t es)
        (entry l u (put k t es))) ≡ filled_table
    cases Less = refl
    cases Equal = refl
    cases Greater = refl

all_fill : (es : Entries) (ps : List (List ℕ × Tree)) → entries_piece es ≡ filled_table
    → entries_piece (put_all es ps) ≡ filled_table
all_fill es [] e = e
all_fill es (p ∷ ps) e = all_fill (put p.0 p.1 es) ps (put_fills p.0 p.1 es)

module _ (f : Piece → ℕ) where
  abbrev sum_of : List Piece → ℕ
  sum_of xs = sum_by f xs

  -- the sum of entries as they are read, and how many resources they have
  abbrev entries_sum : List (List ℕ × Tree) → ℕ
  entries_sum [] = 0
  entries_sum (p ∷ ps) = f (key_piece p.0) + (sum_of (pieces p.1) + entries_sum ps)

  abbrev entries_counted : List (List ℕ × Tree) → ℕ
  entries_counted [] = 0
  entries_counted (p ∷ ps) = tree_count p.1 + entries_counted ps

  -- the sum of entries
  entry_sum : (k : List ℕ) (t : Tree) (es : Entries)
      → sum_of (pieces_of_entries (entry k t es))
      ≡ f (key_piece k) + (sum_of (pieces t) + sum_of (pieces_of_entries es))
  entry_sum k t es =
      sum_by-cons f (key_piece k) (pieces t ++ pieces_of_entries es)
      ∙ ap (λ n. f (key_piece k) + n) (sum_by-append f (pieces t) (pieces_of_entries es))

  -- an entry is put: no more than it is added, and less where it replaces one
  put_within : (k : List ℕ) (t : Tree) (es : Entries)
      → Within (sum_of (pieces_of_entries (put k t es)))
      (f (key_piece k) + (sum_of (pieces t) + sum_of (pieces_of_entries es)))
      (entries_count (put k t es)) (tree_count t + entries_count es)
  put_within k t no_entries = record {
    first = omega (arith, entry_sum k t no_entries);
    second = omega arith;
    either = inl (entry_sum k t no_entries);
  }
  put_within k t (entry l u es) = cases (put_within k t es) (slice_cmp nat_cmp k l)
    where
      cases : Within (sum_of (pieces_of_entries (put k t es)))
          (f (key_piece k) + (sum_of (pieces t) + sum_of (pieces_of_entries es)))
          (entries_count (put k t es)) (tree_count t + entries_count es)
          → (o : Ordering)
          → Within (sum_of (pieces_of_entries
          (match_ordering o (entry k t (entry l u es)) (entry l t es) (entry l u (put k t es)))))
          (f (key_piece k) + (sum_of (pieces t) + sum_of (pieces_of_entries (entry l u es))))
          (entries_count
          (match_ordering o (entry k t (entry l u es)) (entry l t es) (entry l u (put k t es))))
          (tree_count t + entries_count (entry l u es))
      cases more Less = record {
        first = omega (arith, entry_sum k t (entry l u es));
        second = omega arith;
        either = inl (entry_sum k t (entry l u es));
      }
      cases more Equal = record {
        first = omega (arith, entry_sum l t es, entry_sum l u es);
        second = omega arith;
        either = inr (omega (arith, one_at_least u));
      }
      cases more Greater = record {
        first = omega (arith, entry_sum l u (put k t es), entry_sum l u es, more.first);
        second = omega (arith, more.second);
        either = later more.either;
      }
        where
          later : (sum_of (pieces_of_entries (put k t es))
              ≡ f (key_piece k) + (sum_of (pieces t) + sum_of (pieces_of_entries es)))
              ⊎ (entries_count (put k t es) + 1 ≤ tree_count t + entries_count es)
              → (sum_of (pieces_of_entries (entry l u (put k t es)))
              ≡ f (key_piece k) + (sum_of (pieces t) + sum_of (pieces_of_entries (entry l u es))))
              ⊎ (tree_count u + entries_count (put k t es) + 1
              ≤ tree_count t + (tree_count u + entries_count es))
          later (inl e) = inl (omega (arith, entry_sum l u (put k t es), entry_sum l u es, e))
          later (inr e) = inr (omega (arith, e))

  all_within : (es : Entries) (ps : List (List ℕ × Tree))
      → Within (sum_of (pieces_of_entries (put_all es ps)))
      (entries_sum ps + sum_of (pieces_of_entries es)) (entries_count (put_all es ps))
      (entries_counted ps + entries_count es)
  all_within es [] = as_within _ _ _ _ refl (omega arith) refl (omega arith) (same_within _ _)
  all_within es (p ∷ ps) =
      let here = put_within p.0 p.1 es in
      let behind = all_within (put p.0 p.1 es) ps in
      let more = both_within (same_within (entries_sum ps) (entries_counted ps)) here in
      as_within _ _ _ _ refl (omega arith) refl (omega arith) (then_within behind more)

  module _ (p : Parts) where
    -- a table's own piece
    table_same : {es : List (ℕ × Member)} {ts : List (List ℕ × Tree)} {n : ℕ} → DenEntries p es ts n
        → entries_piece (map_of ts) ≡ table_piece es
    table_same entries_none = refl
    table_same (entries_more {key = k'} {t = t'} {ts = ts'} e d ds) =
        all_fill (put k' t' no_entries) ts' (put_fills k' t' no_entries)

    -- what has no members by its type
    leaf_within : {w : ℕ} {xs : List Piece} (t : Tree) → content_at p w ≡ Some (leaf t)
        → Holds p w xs → Within (sum_of (pieces t)) (sum_of xs) (tree_count t) 1
    leaf_within {w} t e h =
        let one = leaf_piece_of t (content_leaf p w t e) in
        as_within _ _ _ _ (ap sum_of one.0) (ap sum_of (leaf_holds p e h)) one.1 refl
        (same_within (sum_of (leaf_piece t ∷ [])) 1)

    mutual
      -- the tree of a place has no more of anything than its pieces, with fewer entries where equal
      -- keys were put over each other
      pub tree_within : {w n : ℕ} {t : Tree} {xs : List Piece} → Den p w t n → Holds p w xs
          → Within (sum_of (pieces t)) (sum_of xs) (tree_count t) n
      tree_within (den_leaf {t = t'} e) h = leaf_within t' e h
      tree_within (den_list {n = n'} {ts = ts'} e d) h =
          let i = list_holds p e h in
          let more = each_within d i.2 in
          let own = same_within (f array_piece) 1 in
          as_within _ _ _ _ (sum_by-cons f array_piece (pieces_of_each (trees_of ts')))
          (ap sum_of i.1 ∙ sum_by-cons f array_piece i.0) (omega arith) refl
          (both_within own more)
      tree_within (den_entries {n = n'} {es = es'} {ts = ts'} e d) h =
          let i = entries_hold p e h in
          let more = entries_within d i.2 in
          let all = all_within no_entries ts' in
          let own = same_within (f (table_piece es')) 1 in
          let there : Within (sum_of (pieces_of_entries (map_of ts'))) (entries_sum ts')
          (entries_count (map_of ts')) (entries_counted ts') =
          as_within _ _ _ _ refl (omega arith) refl (omega arith) all in
          let whole : sum_of (entries_piece (map_of ts') ∷ pieces_of_entries (map_of ts'))
          ≡ f (table_piece es') + sum_of (pieces_of_entries (map_of ts')) =
          ap (λ x. sum_of (x ∷ pieces_of_entries (map_of ts'))) (table_same d)
          ∙ sum_by-cons f (table_piece es') (pieces_of_entries (map_of ts')) in
          as_within _ _ _ _ whole (ap sum_of i.1 ∙ sum_by-cons f (table_piece es') i.0)
          (omega arith) refl (both_within own (then_within there more))

      member_within : {m : Member} {n : ℕ} {t : Tree} {xs : List Piece} → DenMember p m t n
          → HoldsMember p m xs → Within (sum_of (pieces t)) (sum_of xs) (tree_count t) n
      member_within (den_word d) (holds_word h) = tree_within d h
      member_within (den_unit {s = s'} e) (holds_unit {s = u'} g) =
          let same : leaf_piece (string u') ≡ leaf_piece (string s') =
          ap (λ s. leaf_piece (string s)) (same_some g e) in
          as_within _ _ _ _ refl (ap (λ x. sum_of (x ∷ [])) same) refl refl (same_within _ 1)

      each_within : {ms : List Member} {n : ℕ} {ts : List Tree} {xs : List Piece}
          → DenEach p ms ts n → HoldsEach p ms xs
          → Within (sum_of (pieces_of_each (trees_of ts))) (sum_of xs) (trees_count (trees_of ts)) n
      each_within each_none holds_none = same_within _ _
      each_within (each_more {t = t'} {ts = ts'} d ds) (holds_more {xs = xs'} {ys = ys'} h hs) =
          as_within _ _ _ _ (sum_by-append f (pieces t') (pieces_of_each (trees_of ts')))
          (sum_by-append f xs' ys') refl refl
          (both_within (member_within d h) (each_within ds hs))

      entries_within : {es : List (ℕ × Member)} {n : ℕ} {ts : List (List ℕ × Tree)}
          {xs : List Piece}
          → DenEntries p es ts n → HoldsEachEntry p es xs
          → Within (entries_sum ts) (sum_of xs) (entries_counted ts) n
      entries_within entries_none holds_no_entry = same_within _ _
      entries_within (entries_more {key = k'} {t = t'} {ts = ts'} e d ds)
          (holds_entry {key = l'} {xs = xs'} {ys = ys'} g h hs) =
          let same : l' ≡ k' = same_some g e in
          let sum : sum_of (key_piece l' ∷ xs' ++ ys')
          ≡ f (key_piece k') + (sum_of xs' + sum_of ys') =
          sum_by-cons f (key_piece l') (xs' ++ ys')
          ∙ ap (λ n. f (key_piece l') + n) (sum_by-append f xs' ys')
          ∙ ap (λ k. f (key_piece k) + (sum_of xs' + sum_of ys')) same in
          let more = both_within (member_within d h) (entries_within ds hs) in
          as_within _ _ _ _ refl sum (omega arith) (omega arith)
          (both_within (same_within (f (key_piece k')) 0) more)

-- The members of two arrays, and the entries of two tables, as they are walked through.
use Rattle.std.proofs.Common.{◌≡◌, ℕ, ◌+◌, ◌<◌, ◌≤◌, List, [], ◌∷◌, ◌++◌, length, get_or}
use Rattle.std.proofs.Common.{Iter, Option, Some, None, refl, sym, ap, ◌∙◌, subst}
use Rattle.std.proofs.Common.{append-nil, arith}
use Rattle.std.specs.Prelude.{MatchOption}
use Rattle.std.specs.Borrow.{Bor}
use Rattle.std.specs.Slice.Iter.{iter_rest, iter_steps}
use Rattle.std.proofs.lemmas.List.{nil_from_length}
use Rattle.resb_tree.specs.Tree.{array, table, Trees, Entries, tree_count, trees_count}
use Rattle.resb_tree.specs.Tree.{entries_count}
use Rattle.resb_tree.specs.View.{items_view, entries_view}
use Rattle.resb_tree.specs.declared.resource.Resource.{Resource}
use Rattle.resb_diff.specs.Differences.{Step, by_key, by_number}
use Rattle.resb_diff.specs.Differences.{member_differences, entry_differences}
use Rattle.resb_diff.specs.declared.differences.Change.{Change}
use Rattle.resb_diff.specs.declared.differences.Found.{Found}
use Rattle.resb_diff.specs.Inner.Walking.{to_come, weights, Keeps, AreWithin}
use Rattle.resb_diff.specs.Inner.Walking.{PutsOne, ComeTo, TakesMember, TakesEntry}
use Rattle.resb_diff.specs.Inner.Walking.{trees_to_come, trees_behind, entries_to_come}
use Rattle.resb_diff.specs.Inner.Walking.{old_left, new_left}
use Rattle.resb_diff.proofs.WalkLemmas.{weight_is_one, keeps_all, keeps_more, comes_more}

-- what is known of two arrays while their members are walked through
pub record MembersSoFar (ps : List (List Step)) (from : ℕ) (ts us : Trees) (qs : List (List Step))
    (fs : List Found) (one other : Option (Bor Resource)) (olds news : Trees) : Type 0 where
  pub comes : to_come qs fs ++ member_differences (get_or ps from []) (length fs)
      (trees_to_come one olds) (trees_to_come other news)
      ≡ member_differences (get_or ps from []) 0 ts us
  pub within : AreWithin (length qs) fs
  pub keeps : Keeps ps qs
  pub weighs : weights fs + trees_count (trees_to_come one olds)
      + trees_count (trees_to_come other news) ≤ trees_count ts + trees_count us
  pub old_behind : trees_behind one olds ≡ olds
  pub new_behind : trees_behind other news ≡ news

-- what a step of an array's iterator leaves
pub trees_next : (s : Iter Resource) (r : Option (Bor Resource)) (t : Iter Resource)
    → iter_steps s r t → (items_view (iter_rest s) ≡ trees_to_come r (items_view (iter_rest t)))
    × (trees_behind r (items_view (iter_rest t)) ≡ items_view (iter_rest t))
trees_next s None t h =
    let e : iter_rest s ≡ [] = nil_from_length (iter_rest s) h.0 in
    (ap items_view e, sym (ap items_view e) ∙ sym (ap (λ u. items_view (iter_rest u)) h.1))
trees_next s (Some x) t h = (ap items_view h, refl)

pub members_start : (ps : List (List Step)) (from : ℕ) (ts us : Trees) (fs : List Found)
    (one other : Option (Bor Resource)) (olds news : Trees) → fs ≡ []
    → (ts ≡ trees_to_come one olds) × (trees_behind one olds ≡ olds)
    → (us ≡ trees_to_come other news) × (trees_behind other news ≡ news)
    → MembersSoFar ps from ts us ps fs one other olds news
members_start ps from ts us fs one other olds news none old new =
    rw none (record {
      comes = λ i. member_differences (get_or ps from []) 0 (sym old.0 i) (sym new.0 i);
      within = tt;
      keeps = keeps_all ps;
      weighs = omega (arith, ap trees_count old.0, ap trees_count new.0);
      old_behind = old.1;
      new_behind = new.1;
    })

module _ (ps : List (List Step)) (from : ℕ) (ts us : Trees) (qs : List (List Step))
    (fs : List Found) (one other : Option (Bor Resource)) (olds news : Trees)
    (s : MembersSoFar ps from ts us qs fs one other olds news) where
  pub members_end : (one ≡ None) × (other ≡ None)
      → ComeTo ps (member_differences (get_or ps from []) 0 ts us)
      (tree_count (array ts) + tree_count (array us)) qs fs
  members_end h = record {
    comes = sym (append-nil (to_come qs fs))
        ∙ (λ i. to_come qs fs ++ member_differences (get_or ps from []) (length fs)
        (trees_to_come (sym h.0 i) olds) (trees_to_come (sym h.1 i) news))
        ∙ s.comes;
    within = s.within;
    keeps = s.keeps;
    weighs = omega (arith, s.weighs);
  }

  pub members_path : (n : ℕ) → from < length ps → n ≡ length fs
      → get_or qs from [] ++ by_number n ∷ [] ≡ get_or ps from [] ++ by_number (length fs) ∷ []
  members_path n h e = λ i. s.keeps.same from h i ++ by_number (e i) ∷ []

  module _ (c : Change) (rs : List (List Step)) (gs : List Found) (p : List Step)
      (t : TakesMember one other c) (e : p ≡ get_or ps from [] ++ by_number (length fs) ∷ [])
      (o : PutsOne qs fs p c rs gs) (one' other' : Option (Bor Resource)) (olds' news' : Trees)
      (old : (olds ≡ trees_to_come one' olds') × (trees_behind one' olds' ≡ olds'))
      (new : (news ≡ trees_to_come other' news') × (trees_behind other' news' ≡ news')) where
    pub members_step : MembersSoFar ps from ts us rs gs one' other' olds' news'
    members_step = record {
      comes = (λ i. to_come rs gs ++ member_differences (get_or ps from []) (o.long i)
          (sym (s.old_behind ∙ old.0) i) (sym (s.new_behind ∙ new.0) i))
          ∙ comes_more qs rs fs gs _ c _ _ _
          (subst (λ q. PutsOne qs fs q c rs gs) e o)
          (t.comes (get_or ps from []) (length fs) olds news) s.comes;
      within = o.within;
      keeps = keeps_more ps qs rs s.keeps o.keeps;
      weighs = omega (
        arith,
        o.weighs,
        t.weighs olds news,
        s.weighs,
        ap trees_count (s.old_behind ∙ old.0),
        ap trees_count (s.new_behind ∙ new.0),
      );
      old_behind = old.1;
      new_behind = new.1;
    }

    pub members_smaller : trees_count (trees_to_come one' olds')
        + trees_count (trees_to_come other' news')
        < trees_count (trees_to_come one olds) + trees_count (trees_to_come other news)
    members_smaller =
        omega (
          arith,
          weight_is_one c,
          t.weighs olds news,
          ap trees_count (s.old_behind ∙ old.0),
          ap trees_count (s.new_behind ∙ new.0),
        )

-- what is known of two tables while their entries are walked through
pub record EntriesSoFar (ps : List (List Step)) (from : ℕ) (es fs : Entries) (qs : List (List Step))
    (gs : List Found) (olds news : Entries) : Type 0 where
  pub comes : to_come qs gs ++ entry_differences (get_or ps from []) olds news
      ≡ entry_differences (get_or ps from []) es fs
  pub within : AreWithin (length qs) gs
  pub keeps : Keeps ps qs
  pub weighs : weights gs + entries_count olds + entries_count news
      ≤ entries_count es + entries_count fs

-- what a step of a table's iterator leaves
pub entries_next : (s : List (List ℕ × Resource)) (r : Option (Bor (List ℕ) × Bor Resource))
    (t : List (List ℕ × Resource)) → MatchOption r ((s ≡ []) × (t ≡ []))
    (λ x. s ≡ (x.0.now, x.1.now) ∷ t)
    → entries_view s ≡ entries_to_come r (entries_view t)
entries_next s None t h = ap entries_view h.0
entries_next s (Some x) t h = ap entries_view h

pub entries_start : (ps : List (List Step)) (from : ℕ) (es fs : Entries) (gs : List Found)
    (olds news : Entries) → gs ≡ [] → es ≡ olds → fs ≡ news
    → EntriesSoFar ps from es fs ps gs olds news
entries_start ps from es fs gs olds news none old new =
    rw none (record {
      comes = λ i. entry_differences (get_or ps from []) (sym old i) (sym new i);
      within = tt;
      keeps = keeps_all ps;
      weighs = omega (arith, ap entries_count old, ap entries_count new);
    })

module _ (ps : List (List Step)) (from : ℕ) (es fs : Entries) (qs : List (List Step))
    (gs : List Found) (one other : Option (Bor (List ℕ) × Bor Resource)) (olds news : Entries)
    (s : EntriesSoFar ps from es fs qs gs (entries_to_come one olds) (entries_to_come other news))
  where
    pub entries_end : (one ≡ None) × (other ≡ None)
        → ComeTo ps (entry_differences (get_or ps from []) es fs)
        (tree_count (table es) + tree_count (table fs)) qs gs
    entries_end h = record {
      comes = sym (append-nil (to_come qs gs))
          ∙ (λ i. to_come qs gs ++ entry_differences (get_or ps from [])
          (entries_to_come (sym h.0 i) olds) (entries_to_come (sym h.1 i) news))
          ∙ s.comes;
      within = s.within;
      keeps = s.keeps;
      weighs = omega (arith, s.weighs);
    }

    module _ (k : List ℕ) (c : Change) (rs : List (List Step)) (hs : List Found)
        (t : TakesEntry one other k c) (h : from < length ps)
        (o : PutsOne qs gs (get_or qs from [] ++ by_key k ∷ []) c rs hs) (olds' news' : Entries)
        (old : olds' ≡ old_left c (entries_to_come one olds) olds)
        (new : news' ≡ new_left c (entries_to_come other news) news) where
      pub entries_step : EntriesSoFar ps from es fs rs hs olds' news'
      entries_step = record {
        comes = (λ i. to_come rs hs ++ entry_differences (get_or ps from []) (old i) (new i))
            ∙ comes_more qs rs gs hs _ c _ _ _
            (subst (λ q. PutsOne qs gs (q ++ by_key k ∷ []) c rs hs) (s.keeps.same from h) o)
            (t.comes (get_or ps from []) olds news) s.comes;
        within = o.within;
        keeps = keeps_more ps qs rs s.keeps o.keeps;
        weighs = omega (
          arith,
          o.weighs,
          t.weighs olds news,
          s.weighs,
          ap entries_count old,
          ap entries_count new,
        );
      }

      pub entries_smaller : entries_count olds' + entries_count news'
          < entries_count (entries_to_come one olds) + entries_count (entries_to_come other news)
      entries_smaller =
          omega (
            arith,
            weight_is_one c,
            t.weighs olds news,
            ap entries_count old,
            ap entries_count new,
          )

-- The last run that ends with a key.
use Rattle.std.proofs.Common.{ℕ, zero, suc, List, [], ◌∷◌, ◌++◌, ◌≡◌, ◌+◌, ◌-◌, ◌<◌, ◌≤◌, inl, inr}
use Rattle.std.proofs.Common.{take, length, get_or, reverse, Option, Some, None, option_map, Bool}
use Rattle.std.proofs.Common.{true, false, cond, refl, sym, ap, ◌∙◌, subst, arith, nat_eq}
use Rattle.std.proofs.Common.{true≢false}
use Rattle.std.proofs.Common.{append-nil}
use Rattle.std.specs.List.{ends_with}
use Rattle.std.specs.Option.{option_or}
use Rattle.std.specs.Cmp.{IsStrictWeakOrder}
use Rattle.std.specs.Ordering.{nat_cmp, ordering_then, is_lt}
use Rattle.std.specs.declared.cmp.Ordering.{Ordering}
use Rattle.std.specs.declared.cmp.Ordering.TheVariants.{Less, Equal, Greater}
use Rattle.std.proofs.lemmas.Bool.{cases_lt}
use Rattle.std.proofs.lemmas.Bool.Decides.{Decides-eqb}
use Rattle.std.proofs.lemmas.Cmp.{then_total, on_total, nat_cmp_total}
use Rattle.std.proofs.lemmas.List.{reverse-reverse, reverse-append, get_or-map, length-map}
use Rattle.std.proofs.lemmas.List.MinMax.{ranks_by}
use Rattle.std.proofs.lemmas.List.Sorted.{sorted_far}
use Rattle.std.proofs.lemmas.Slice.Eq.{ends_is}
use Rattle.resb_pool.specs.Order.{end_last_cmp}
use Rattle.resb_pool.specs.Inner.Extends.{Extends}
use Rattle.resb_pool.proofs.SuffixOrder.{end_last_total, tied_same, extends_not_after, between}
use Rattle.resb_lent.specs.LentEnds.{IsRun, run_cmp, LendsEnd}
use Rattle.resb_lent.specs.LendingEnds.{run_of, last_ending, LendsEnds}
use Rattle.resb_lent.specs.declared.ends.LentRun.{LentRun}
use Rattle.resb_lent.specs.declared.ends.LentEnds.{LentEnds}
use Rattle.resb_lent.proofs.Lying.{comes_after, turned}

abbrev bytes : LentRun → List ℕ
bytes r = r.bytes.now

-- j ends with k where its bytes from the end begin with those of k
pub ends_extends : (j k : List ℕ) → ends_with nat_eq j k ≡ true → Extends (reverse j) (reverse k)
ends_extends j k e =
    let n = length j - length k in
    let is : j ≡ take n j ++ k = (ends_is Decides-eqb j k (ends_with nat_eq j k) refl).0 e in
    record { rest = reverse (take n j); is = ap reverse is ∙ reverse-append (take n j) k }

pub extends_ends : (j k : List ℕ) → Extends (reverse j) (reverse k) → ends_with nat_eq j k ≡ true
extends_ends j k h =
    (ends_is Decides-eqb j k (ends_with nat_eq j k) refl).1 (reverse h.rest)
    (sym (reverse-reverse j) ∙ ap reverse h.is ∙ reverse-append (reverse k) h.rest
    ∙ ap (λ l. reverse h.rest ++ l) (reverse-reverse k))

pub run_order : IsStrictWeakOrder (λ (x y : LentRun). is_lt (run_cmp (run_of x) (run_of y)))
run_order = ranks_by (then_total (on_total (λ (r : LentRun). reverse (bytes r)) end_last_total)
    (on_total (λ (r : LentRun). r.at) nat_cmp_total)) (λ (r : LentRun). r)

-- where none is the last one, none ends with the key
pub none_ends : (rs : List LentRun) (k : List ℕ) → last_ending rs k ≡ None → (j : ℕ) (d : LentRun)
    → j < length rs → ends_with nat_eq (bytes (get_or rs j d)) k ≡ true → ⊥
none_ends [] k e j d l h = omega (arith, l)
none_ends (r ∷ rs) k e j d l h = by (λ f i m g. none_ends rs k f i d m g) (last_ending rs k) refl
    (ends_with nat_eq (bytes r) k) refl
  where
    Later : Type 0
    Later = last_ending rs k ≡ None → (i : ℕ) → i < length rs
        → ends_with nat_eq (bytes (get_or rs i d)) k ≡ true → ⊥

    at : Later → last_ending rs k ≡ None → ends_with nat_eq (bytes r) k ≡ false → (i : ℕ) → i ≡ j
        → ⊥
    at later rest here zero f =
        let g : j ≡ 0 = sym f in
        true≢false (sym h ∙ ap (λ n. ends_with nat_eq (bytes (get_or (r ∷ rs) n d)) k) g ∙ here)
    at later rest here (suc i) f = later rest i (omega (arith, l, f))
        (ap (λ n. ends_with nat_eq (bytes (get_or (r ∷ rs) n d)) k) f ∙ h)

    by : Later → (o : Option LentRun) → last_ending rs k ≡ o → (b : Bool)
        → ends_with nat_eq (bytes r) k ≡ b → ⊥
    by later (Some x) f b g =
        let no : Some x ≡ None =
        sym (ap (λ o. option_or o (cond (ends_with nat_eq (bytes r) k) (Some r) None)) f) ∙ e in
        cc
    by later None f true g =
        let no : Some r ≡ None = sym (λ i. option_or (f i) (cond (g i) (Some r) None)) ∙ e in
        cc
    by later None f false g = at later f g j refl

-- the last one ends with the key, and none behind it does
pub record IsLast (rs : List LentRun) (k : List ℕ) (r : LentRun) : Type 0 where
  pub at : ℕ
  pub within : at < length rs
  pub is : (d : LentRun) → get_or rs at d ≡ r
  pub ends : ends_with nat_eq (bytes r) k ≡ true
  pub behind : (j : ℕ) (d : LentRun) → at < j → j < length rs
      → ends_with nat_eq (bytes (get_or rs j d)) k ≡ true → ⊥

pub some_ends : (rs : List LentRun) (k : List ℕ) (r : LentRun) → last_ending rs k ≡ Some r
    → IsLast rs k r
some_ends [] k r e = absurd cc
some_ends (x ∷ rs) k r e = by (λ f. some_ends rs k r f) (last_ending rs k) refl
    (ends_with nat_eq (bytes x) k) refl
  where
    later : IsLast rs k r → IsLast (x ∷ rs) k r
    later h = record {
      at = suc h.at;
      within = omega (arith, h.within);
      is = h.is;
      ends = h.ends;
      behind = next;
    }
      where
        next : (j : ℕ) (d : LentRun) → suc h.at < j → j < length (x ∷ rs)
            → ends_with nat_eq (bytes (get_or (x ∷ rs) j d)) k ≡ true → ⊥
        next zero d l m f = omega (arith, l)
        next (suc j) d l m f = h.behind j d (omega (arith, l)) (omega (arith, m)) f

    here : last_ending rs k ≡ None → ends_with nat_eq (bytes x) k ≡ true → x ≡ r
        → IsLast (x ∷ rs) k r
    here none ends same = record {
      at = 0;
      within = omega arith;
      is = λ d. same;
      ends = ap (λ y. ends_with nat_eq (bytes y) k) (sym same) ∙ ends;
      behind = next;
    }
      where
        next : (j : ℕ) (d : LentRun) → 0 < j → j < length (x ∷ rs)
            → ends_with nat_eq (bytes (get_or (x ∷ rs) j d)) k ≡ true → ⊥
        next zero d l m f = omega (arith, l)
        next (suc j) d l m f = none_ends rs k none j d (omega (arith, m)) f

    by : (last_ending rs k ≡ Some r → IsLast rs k r) → (o : Option LentRun) → last_ending rs k ≡ o
        → (b : Bool) → ends_with nat_eq (bytes x) k ≡ b → IsLast (x ∷ rs) k r
    by again (Some y) f b g =
        let same : Some y ≡ Some r =
        sym (ap (λ o. option_or o (cond (ends_with nat_eq (bytes x) k) (Some x) None)) f) ∙ e in
        later (again (f ∙ same))
    by again None f true g =
        let same : Some x ≡ Some r = sym (λ i. option_or (f i) (cond (g i) (Some x) None)) ∙ e in
        let is : x ≡ r = cc in
        here f g is
    by again None f false g =
        let no : None ≡ Some r = sym (λ i. option_or (f i) (cond (g i) (Some x) None)) ∙ e in
        absurd cc

module _ (l : LentEnds) (keys : List ℕ) (h : LendsEnds l keys) where
  abbrev rs : List LentRun
  rs = l.runs.items

  -- runs stand in order
  runs_far : (i j : ℕ) (d : LentRun) → i ≤ j → j < length rs
      → run_cmp (run_of (get_or rs j d)) (run_of (get_or rs i d)) ≡ Less → ⊥
  runs_far i j d m n e =
      let f = sorted_far (λ (x y : LentRun). is_lt (run_cmp (run_of x) (run_of y))) run_order rs
      h.sorted i j d m n in
      true≢false (sym (ap is_lt e) ∙ f)

  bytes_far : (i j : ℕ) (d : LentRun) → i ≤ j → j < length rs
      → end_last_cmp (reverse (bytes (get_or rs j d))) (reverse (bytes (get_or rs i d))) ≡ Less
      → ⊥
  bytes_far i j d m n e = runs_far i j d m n
      (ap (λ o. ordering_then o (nat_cmp (get_or rs j d).at (get_or rs i d).at)) e)

  -- each run has a number
  number_of : (e : List ℕ × ℕ) → IsRun keys e
      → (j : ℕ) × (j < length rs) × ((d : LentRun) → run_of (get_or rs j d) ≡ e)
  number_of e x =
      let c = h.complete e x in
      let m : c.0 < length rs = omega (arith, c.1, length-map rs run_of) in
      (c.0, m, λ d. sym (get_or-map run_of rs c.0 d e m) ∙ c.2)

  -- the last one in the list is the last one of all
  pub ends_lend : (k : List ℕ) → LendsEnd keys k (option_map run_of (last_ending rs k))
  ends_lend k = by (last_ending rs k) refl
    where
      by : (o : Option LentRun) → last_ending rs k ≡ o → LendsEnd keys k (option_map run_of o)
      by None e = λ f x ends.
          let (j, m, is) = number_of f x in
          let d : LentRun = record { bytes = record { ref_ptr = (0, 0); now = [] }; at = 0 } in
          none_ends rs k e j d m (ap (λ p. ends_with nat_eq p.0 k) (is d) ∙ ends)
      by (Some r) e =
          let last = some_ends rs k r e in
          record {
            run = subst (λ x. IsRun keys (run_of x)) (last.is r) (h.sound last.at r last.within);
            ends = last.ends;
            last = λ f x ends less.
                let (j, m, is) = number_of f x in
                elim (cases_lt last.at j) [
                  | inl n ↦ last.behind j r n m (ap (λ p. ends_with nat_eq p.0 k) (is r) ∙ ends)
                  | inr n ↦ runs_far j last.at r n last.within
                      ((λ i. run_cmp (run_of (last.is r i)) (is r i)) ∙ less)
                ];
          }

  module _ (k : List ℕ) (count : ℕ)
      (behind : (d : LentRun) → count < length rs
      → end_last_cmp (reverse (bytes (get_or rs count d))) (reverse k) ≡ Greater) where
    -- what ends with the key is among the first ones
    among : (j : ℕ) (d : LentRun) → j < length rs
        → ends_with nat_eq (bytes (get_or rs j d)) k ≡ true → j < count
    among j d m e = elim (cases_lt j count) [
      | inl n ↦ n
      | inr n ↦
          let g = comes_after (reverse (bytes (get_or rs j d)))
          (reverse (bytes (get_or rs count d))) (reverse k) (bytes_far count j d n m)
          (behind d (omega (arith, n, m))) in
          absurd (extends_not_after (reverse (bytes (get_or rs j d))) (reverse k)
          (ends_extends (bytes (get_or rs j d)) k e) g)
    ]

    pub none_counted : count ≡ 0 → None ≡ last_ending rs k
    none_counted z = by (last_ending rs k) refl
      where
        by : (o : Option LentRun) → last_ending rs k ≡ o → None ≡ last_ending rs k
        by None e = sym e
        by (Some r) e =
            let last = some_ends rs k r e in
            absurd (omega (
              arith,
              z,
              among last.at r last.within
                  (ap (λ x. ends_with nat_eq (bytes x) k) (last.is r) ∙ last.ends),
            ))

    module _ (n : ℕ) (d : LentRun) (is : count ≡ n + 1) (inside : n < length rs)
        (before : end_last_cmp (reverse (bytes (get_or rs n d))) (reverse k) ≡ Greater → ⊥)
      where
        abbrev r : LentRun
        r = get_or rs n d

        -- if any of them ends with the key, the last one does
        last_does : (j : ℕ) → j < length rs → ends_with nat_eq (bytes (get_or rs j d)) k ≡ true
            → ends_with nat_eq (bytes r) k ≡ true
        last_does j m e = by (end_last_cmp (reverse (bytes r)) (reverse k)) refl
          where
            by : (o : Ordering) → end_last_cmp (reverse (bytes r)) (reverse k) ≡ o
                → ends_with nat_eq (bytes r) k ≡ true
            by Less f = extends_ends (bytes r) k (between (reverse (bytes (get_or rs j d)))
                (reverse (bytes r)) (reverse k)
                (λ g. bytes_far j n d (omega (arith, among j d m e, is)) inside
                (turned (reverse (bytes (get_or rs j d))) (reverse (bytes r)) Greater g))
                f (ends_extends (bytes (get_or rs j d)) k e))
            by Equal f = extends_ends (bytes r) k (record {
              rest = [];
              is = tied_same (reverse (bytes r)) (reverse k) f ∙ sym (append-nil (reverse k));
            })
            by Greater f = absurd (before f)

        pub last_found : ends_with nat_eq (bytes r) k ≡ true → Some r ≡ last_ending rs k
        last_found ends = by (last_ending rs k) refl
          where
            by : (o : Option LentRun) → last_ending rs k ≡ o → Some r ≡ last_ending rs k
            by None e = absurd (none_ends rs k e n d inside ends)
            by (Some x) e =
                let last = some_ends rs k x e in
                let m = among last.at d last.within
                (ap (λ y. ends_with nat_eq (bytes y) k) (last.is d) ∙ last.ends) in
                elim (cases_lt last.at n) [
                  | inl less ↦ absurd (last.behind n d less inside ends)
                  | inr more ↦
                      let same : n ≡ last.at = omega (arith, m, is, more) in
                      ap Some (ap (λ j. get_or rs j d) same ∙ last.is d) ∙ sym e
                ]

        pub none_found : ends_with nat_eq (bytes r) k ≡ false → None ≡ last_ending rs k
        none_found none = by (last_ending rs k) refl
          where
            by : (o : Option LentRun) → last_ending rs k ≡ o → None ≡ last_ending rs k
            by None e = sym e
            by (Some x) e =
                let last = some_ends rs k x e in
                absurd (true≢false (sym (last_does last.at last.within
                (ap (λ y. ends_with nat_eq (bytes y) k) (last.is d) ∙ last.ends)) ∙ none))

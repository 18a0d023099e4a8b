-- Distinct texts in suffix order: what ends with a text stands in one run right before it.
use Rattle.std.proofs.Common.{◌≡◌, ℕ, ◌+◌, ◌-◌, ◌<◌, ◌≤◌, List, [], ◌++◌, length, get_or, Bool}
use Rattle.std.proofs.Common.{true, false, inl, inr, refl, sym, ◌∙◌, ap, subst, arith, append_assoc}
use Rattle.std.proofs.Common.{true≢false, length-append}
use Rattle.std.proofs.lemmas.Bool.{cases_lt}
use Rattle.std.specs.List.{All, Contains}
use Rattle.std.specs.Str.{IsUtf8}
use Rattle.std.specs.Ordering.{is_lt, ordering_reverse}
use Rattle.std.specs.declared.cmp.Ordering.{Ordering}
use Rattle.std.specs.declared.cmp.Ordering.TheVariants.{Less, Equal, Greater}
use Rattle.std.proofs.lemmas.List.{get_or-map, length-map}
use Rattle.std.proofs.lemmas.List.Elements.{All-contains}
use Rattle.std.proofs.lemmas.List.MinMax.{ranks_by}
use Rattle.std.proofs.lemmas.List.Sorted.{Contains-permutation, length_permutation, sorted_far}
use Rattle.resb_format.specs.Units.{is_unmarked}
use Rattle.resb_pool.specs.Order.{end_last_cmp, suffix_cmp}
use Rattle.resb_pool.specs.Records.{EachOnce, EndsWith, IsRecord}
use Rattle.resb_pool.specs.Container.{IsContainer}
use Rattle.resb_pool.specs.Inner.Cuts.{letters_backwards}
use Rattle.resb_pool.specs.Inner.Extends.{Extends, Before, NotAfter}
use Rattle.resb_pool.specs.Inner.Placing.{indexed_text, LiesAt}
use Rattle.resb_pool.specs.Inner.Suffixes.{AreInOrder, IsSharedEnd, row_text, row_texts}
use Rattle.resb_pool.specs.Inner.Suffixes.{row_cmp}
use Rattle.resb_pool.specs.declared.suffix_order.Row.{Row}
use Rattle.resb_pool.specs.declared.packing.Packing.{Packing}
use Rattle.resb_pool.specs.declared.packing.Packing.TheVariants.{Plain}
use Rattle.resb_pool.proofs.EndLetters.{letters_same, letters_extend, letters_end}
use Rattle.resb_pool.proofs.Distinct.{has_text, index_of, one_index}
use Rattle.resb_pool.proofs.InOrder.{distinct_permutation}
use Rattle.resb_pool.proofs.Sharing.{own_container}
use Rattle.resb_pool.proofs.SuffixOrder.{end_last_total, tied_same, extends_not_after, between}
use Rattle.resb_pool.proofs.TextLists.{TextList}

-- how the order of two texts turns round
turned : (t s : List ℕ) (o : Ordering) → end_last_cmp t s ≡ o
    → end_last_cmp s t ≡ ordering_reverse o
turned t s o e = end_last_total.antisymm s t ∙ ap ordering_reverse e

-- what is not less comes not before
not_less : (t s : List ℕ) → is_lt (end_last_cmp t s) ≡ false → NotAfter s t
not_less t s h g = true≢false (sym (ap is_lt (turned s t Greater g)) ∙ h)

-- two texts: one stands before the other, or they are the same
two_texts : (way : Packing) (P : Type 0) (t s : List ℕ) → IsUtf8 t → IsUtf8 s
    → (Before (letters_backwards way t) (letters_backwards way s) → P)
    → (t ≡ s → P) → (Before (letters_backwards way s) (letters_backwards way t) → P) → P
two_texts way P t s u v less same more =
    by (end_last_cmp (letters_backwards way t) (letters_backwards way s)) refl
  where
    by : (o : Ordering) → end_last_cmp (letters_backwards way t) (letters_backwards way s) ≡ o → P
    by Less e = less e
    by Equal e = same (letters_same way t s u v
        (tied_same (letters_backwards way t) (letters_backwards way s) e))
    by Greater e = more (turned (letters_backwards way t) (letters_backwards way s) Greater e)

pub ends_trans : (t s r : List ℕ) → EndsWith t s → EndsWith s r → EndsWith t r
ends_trans t s r h k = record {
  front = h.front ++ k.front;
  is = h.is ∙ ap (λ l. h.front ++ l) k.is
      ∙ sym (append_assoc h.front k.front r);
}

module _ (way : Packing) (T : TextList) (utf8 : All IsUtf8 T) (once : EachOnce T) (rows : List Row)
    (o : AreInOrder way T rows) where
  abbrev letters : List ℕ → List ℕ
  letters t = letters_backwards way t

  abbrev at : ℕ → Row → List ℕ
  at j d = row_text T (get_or rows j d)

  pub same_len : length rows ≡ length T
  same_len = sym (length-map rows (row_text T)) ∙ length_permutation T (row_texts T rows) o.all

  text_at : (j : ℕ) (d : Row) → j < length rows → indexed_text (row_texts T rows) j ≡ at j d
  text_at j d l = get_or-map (row_text T) rows j d _ l

  pub in_texts : (j : ℕ) (d : Row) → j < length rows → Contains T (at j d)
  in_texts j d l = has_text T (get_or rows j d).index (o.each j d l).within

  pub is_utf8 : (j : ℕ) (d : Row) → j < length rows → IsUtf8 (at j d)
  is_utf8 j d l = All-contains IsUtf8 T (at j d) utf8 (in_texts j d l)

  -- each text has a row
  place_of : (t : List ℕ) (d : Row) → Contains T t → (j : ℕ) × (j < length rows) × (at j d ≡ t)
  place_of t d h =
      let p = index_of (row_texts T rows) t (Contains-permutation T (row_texts T rows) t o.all h) in
      let l : p.0 < length rows = omega (arith, p.1, length-map rows (row_text T)) in
      (p.0, l, sym (text_at p.0 d l) ∙ p.2)

  -- and one alone
  pub one_place : (j k : ℕ) (d : Row) → j < length rows → k < length rows → at j d ≡ at k d → j ≡ k
  one_place j k d l m e =
      let n = length-map rows (row_text T) in
      one_index (row_texts T rows) j k (distinct_permutation T (row_texts T rows) o.all once)
      (omega (arith, l, n)) (omega (arith, m, n)) (text_at j d l ∙ e ∙ sym (text_at k d m))

  pub one_row : (j k : ℕ) (d : Row) → j < length rows → k < length rows
      → (get_or rows j d).index ≡ (get_or rows k d).index → j ≡ k
  one_row j k d l m e = one_place j k d l m (ap (indexed_text T) e)

  pub row_of : (i : ℕ) (d : Row) → i < length T → (j : ℕ) × (j < length rows)
      × ((get_or rows j d).index ≡ i)
  row_of i d l =
      let p = place_of (indexed_text T i) d (has_text T i l) in
      let r = o.each p.0 d p.1 in
      (p.0, p.1, one_index T (get_or rows p.0 d).index i once r.within l p.2)

  -- rows stand in suffix order
  in_order : (i j : ℕ) (d : Row) → i ≤ j → j < length rows
      → NotAfter (letters (at i d)) (letters (at j d))
  in_order i j d l m = not_less (letters (at j d)) (letters (at i d))
      (sorted_far (λ (x y : Row). is_lt (row_cmp way T x y)) (ranks_by end_last_total
      (λ (r : Row). letters (row_text T r))) rows o.ascend i j d l m)

  -- what stands before the text of row j stands in a row before it
  row_before : (t : List ℕ) (j : ℕ) (d : Row) → j < length rows → Contains T t
      → Before (letters t) (letters (at j d)) → (i : ℕ) × (i < j) × (at i d ≡ t)
  row_before t j d l h b =
      let p = place_of t d h in
      elim (cases_lt p.0 j) [
        | inl m ↦ (p.0, m, p.2)
        | inr m ↦
            let n : NotAfter (letters (at j d)) (letters t) =
            subst (λ z. NotAfter (letters (at j d)) (letters z)) p.2
            (in_order j p.0 d m p.1) in
            absurd (n (turned (letters t) (letters (at j d)) Less b))
      ]

  -- nor after the row right before it
  not_after : (t : List ℕ) (k : ℕ) (d : Row) → k + 1 < length rows → Contains T t
      → Before (letters t) (letters (at (k + 1) d))
      → NotAfter (letters t) (letters (at k d))
  not_after t k d l h b =
      let p = row_before t (k + 1) d l h b in
      subst (λ z. NotAfter (letters z) (letters (at k d))) p.2
      (in_order p.0 k d (omega (arith, p.1))
      (omega (arith, l)))

  -- a row stands before the next
  right_before : (k : ℕ) (d : Row) → k + 1 < length rows
      → Before (letters (at k d)) (letters (at (k + 1) d))
  right_before k d l =
      let m : k < length rows = omega (arith, l) in
      two_texts way (Before (letters (at k d)) (letters (at (k + 1) d))) (at k d)
      (at (k + 1) d)
      (is_utf8 k d m) (is_utf8 (k + 1) d l) (λ b. b)
      (λ e. absurd (omega (arith, one_place k (k + 1) d m l e)))
      (λ b. absurd (in_order k (k + 1) d (omega arith) l
      (turned (letters (at (k + 1) d)) (letters (at k d)) Less b)))

  -- where the text right before it doesn't end with a text, no other one does
  pub none_ends : (j : ℕ) (d : Row) → j < length rows
      → ((k : ℕ) → j ≡ k + 1 → EndsWith (at k d) (at j d) → ⊥)
      → (t : List ℕ) → Contains T t → EndsWith t (at j d) → t ≡ at j d
  none_ends j d l none t h e =
      let s = at j d in
      let u = All-contains IsUtf8 T t utf8 h in
      let v = is_utf8 j d l in
      let x = letters_extend way t s u v e in
      two_texts way (t ≡ s) t s u v (λ b. absurd (by_row (row_before t j d l h b) x b)) (λ q. q)
      (λ b. absurd (extends_not_after (letters t) (letters s) x
      (turned (letters s) (letters t) Less b)))
    where
      by_row : {t : List ℕ} → (i : ℕ) × (i < j) × (at i d ≡ t)
          → Extends (letters t) (letters (at j d))
          → Before (letters t) (letters (at j d)) → ⊥
      by_row {t} (i, m, q) x b = previous (j - 1) (omega (arith, m))
        where
          previous : (k : ℕ) → j ≡ k + 1 → ⊥
          previous k f =
              let n : k + 1 < length rows = omega (arith, f, l) in
              let lk : k < length rows = omega (arith, n) in
              let h : Contains T t = subst (Contains T) q (in_texts i d (omega (arith, m, l))) in
              let g : Before (letters t) (letters (at (k + 1) d)) =
              subst (λ z. Before (letters t) (letters (at z d))) f b in
              let y : Extends (letters (at k d)) (letters (at j d)) =
              between (letters t) (letters (at k d)) (letters (at j d))
              (not_after t k d n h g)
              (subst (λ z. Before (letters (at k d)) (letters (at z d))) (sym f)
              (right_before k d n)) x in
              none k f (letters_end way (at k d) (at j d) (is_utf8 k d lk) (is_utf8 j d l) y)

  -- a record lies in itself, and so does the empty text
  pub lies_itself : (j : ℕ) (d : Row) → j < length rows
      → (0 < length (at j d) → IsRecord T (at j d))
      → LiesAt way T (get_or rows j d).index (get_or rows j d).index
  lies_itself j d l own = record {
    within = (o.each j d l).within;
    container = λ p. own_container way T utf8 (at j d) (own p);
    itself = λ h. refl;
    empty = λ z. refl;
  }

  -- of some texts, the greatest one that ends with the text right before s is the greatest one that
  -- ends with s, if s isn't one of them and ends that text
  pub still_greatest : (k : ℕ) (d : Row) → k + 1 < length rows
      → (P : List ℕ → Type 0) → ((q : List ℕ) → P q → Contains T q) → (P (at (k + 1) d) → ⊥)
      → (h : List ℕ) → P h → EndsWith h (at k d)
      → ((q : List ℕ) → P q → EndsWith q (at k d) → suffix_cmp way q h ≡ Greater → ⊥)
      → (q : List ℕ) → P q → EndsWith q (at (k + 1) d) → suffix_cmp way q h ≡ Greater → ⊥
  still_greatest k d l P given none h ph hp greatest q x y g =
      let p = at k d in
      let s = at (k + 1) d in
      let m : k < length rows = omega (arith, l) in
      let u = All-contains IsUtf8 T q utf8 (given q x) in
      let v = All-contains IsUtf8 T h utf8 (given h ph) in
      let w = is_utf8 k d m in
      let a : NotAfter (letters h) (letters q) =
      (λ z. cc (turned (letters q) (letters h) Greater g, z)) in
      let e = letters_extend way h p v w hp in
      two_texts way ⊥ q s u (is_utf8 (k + 1) d l)
      (λ b. two_texts way ⊥ q p u w
      (λ f. greatest q x (letters_end way q p u w
      (between (letters h) (letters q) (letters p) a f e)) g)
      (λ f. greatest q x (record { front = []; is = f }) g)
      (λ f. not_after q k d l (given q x) b
      (turned (letters p) (letters q) Less f)))
      (λ f. none (subst P f x))
      (λ b. extends_not_after (letters q) (letters s)
      (letters_extend way q s u (is_utf8 (k + 1) d l) y)
      (turned (letters s) (letters q) Less b))

-- in a plain file
module _ (T : TextList) (utf8 : All IsUtf8 T) (once : EachOnce T) (rows : List Row)
    (o : AreInOrder Plain T rows) where
  abbrev row_at : ℕ → Row → List ℕ
  row_at j d = row_text T (get_or rows j d)

  -- a text that doesn't lie with the one right before it lies in itself
  pub lies_alone : (j : ℕ) (d : Row) → j < length rows
      → ((k : ℕ) → j ≡ k + 1 → IsSharedEnd (row_at k d) (row_at j d) → ⊥)
      → LiesAt Plain T (get_or rows j d).index (get_or rows j d).index
  lies_alone j d l none = lies_itself Plain T utf8 once rows o j d l own_record
    where
      own_record : 0 < length (row_at j d) → IsRecord T (row_at j d)
      own_record p = by (is_unmarked (row_at j d)) refl
        where
          by : (b : Bool) → is_unmarked (row_at j d) ≡ b → IsRecord T (row_at j d)
          by false e = record {
            given = in_texts Plain T utf8 once rows o j d l;
            nonempty = p;
            alone = inl e;
          }
          by true e = record {
            given = in_texts Plain T utf8 once rows o j d l;
            nonempty = p;
            alone = inr (none_ends Plain T utf8 once rows o j d l (λ k f x. none k f (record {
              nonempty = p;
              ends = x;
              unmarked = e;
            })));
          }

  module _ (k : ℕ) (d : Row) (l : k + 1 < length rows)
      (shared : IsSharedEnd (row_at k d) (row_at (k + 1) d)) where
    abbrev p : List ℕ
    p = row_at k d

    abbrev s : List ℕ
    s = row_at (k + 1) d

    abbrev m : k < length rows
    m = omega (arith, l)

    pub no_record : IsRecord T s → ⊥
    no_record h = elim h.alone [
      | inl e ↦ true≢false (sym shared.unmarked ∙ e)
      | inr only ↦ (let e = only p (in_texts Plain T utf8 once rows o k d m) shared.ends in
          omega (arith, one_place Plain T utf8 once rows o k (k + 1) d m l e))
    ]

    -- a text lies where the one right before it lies, which it ends
    pub lies_shared : (h : ℕ) → LiesAt Plain T (get_or rows k d).index h
        → LiesAt Plain T (get_or rows (k + 1) d).index h
    lies_shared h lies =
        let pos : 0 < length p =
        omega (
          arith,
          shared.nonempty,
          ap length shared.ends.is,
          length-append shared.ends.front s,
        ) in
        let c : IsContainer Plain T p (indexed_text T h) = lies.container pos in
        record {
          within = lies.within;
          container = λ z. record {
            own = c.own;
            ends = ends_trans (indexed_text T h) p s c.ends shared.ends;
            holds = tt;
            greatest = λ q x y z. still_greatest Plain T utf8 once rows o k d l (IsRecord T)
                (λ t w. w.given) no_record (indexed_text T h) c.own c.ends
                (λ t w f. c.greatest t w f tt) q x y;
          };
          itself = λ x. absurd (no_record x);
          empty = λ z. absurd (omega (arith, z, shared.nonempty));
        }

  -- p is the text right before row i, which lies in h
  pub record IsPrevious (i : ℕ) (d : Row) (p : List ℕ) (h : ℕ) : Type 0 where
    pub first : i ≡ 0 → p ≡ []
    pub last : (k : ℕ) → i ≡ k + 1 → (p ≡ row_at k d) × LiesAt Plain T (get_or rows k d).index h

  module _ (i : ℕ) (d : Row) (l : i < length rows) (p : List ℕ) (h : ℕ)
      (before : IsPrevious i d p h) where
    pub step_alone : (IsSharedEnd p (row_at i d) → ⊥)
        → LiesAt Plain T (get_or rows i d).index (get_or rows i d).index
    step_alone none = lies_alone i d l (λ k e x. none (subst (λ z. IsSharedEnd z (row_at i d))
        (sym (before.last k e).0) x))

    pub step_shared : IsSharedEnd p (row_at i d) → LiesAt Plain T (get_or rows i d).index h
    step_shared x = elim (cases_lt 0 i) [
      | inl m ↦
          let k = i - 1 in
          let e : i ≡ k + 1 = omega (arith, m) in
          let b = before.last k e in
          let y : IsSharedEnd (row_at k d) (row_at (k + 1) d) =
          subst (λ z. IsSharedEnd (row_at k d) (row_at z d)) e
          (subst (λ z. IsSharedEnd z (row_at i d)) b.0 x) in
          subst (λ z. LiesAt Plain T (get_or rows z d).index h) (sym e)
          (lies_shared k d (omega (arith, e, l)) y h b.1)
      | inr m ↦
          let e : p ≡ [] = before.first (omega (arith, m)) in
          absurd (omega (
            arith,
            ap length x.ends.is,
            ap length e,
            x.nonempty,
            length-append x.ends.front (row_at i d),
          ))
    ]

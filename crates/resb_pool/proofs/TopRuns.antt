-- Distinct texts in suffix order, in a compact file: the last top before a text that isn't one is
-- the greatest that ends with it.
use Rattle.std.proofs.Common.{◌≡◌, ℕ, ◌+◌, ◌-◌, ◌<◌, List, [], ◌∷◌, ◌++◌, length, get_or}
use Rattle.std.proofs.Common.{true, false, ◌⊎◌, inl, inr, refl, sym, ◌∙◌, ap, subst, arith}
use Rattle.std.proofs.Common.{true≢false, length-append}
use Rattle.std.proofs.lemmas.Bool.{cases_lt}
use Rattle.std.specs.List.{All, Contains}
use Rattle.std.specs.Str.{IsUtf8}
use Rattle.std.proofs.lemmas.List.Elements.{All-contains, Contains-append_left, Contains-push}
use Rattle.std.proofs.lemmas.List.Elements.{Contains-push_cases}
use Rattle.resb_format.specs.Units.{is_unmarked}
use Rattle.resb_pool.specs.Records.{EachOnce, IsRecord}
use Rattle.resb_pool.specs.Container.{IsTop}
use Rattle.resb_pool.specs.Inner.Cuts.{letters_backwards}
use Rattle.resb_pool.specs.Inner.Placing.{indexed_text, LiesAt, IsToldHidden}
use Rattle.resb_pool.specs.Inner.Suffixes.{AreInOrder, IsEnd, row_text}
use Rattle.resb_pool.specs.Inner.Tops.{IsTopOf, StepsTo, new_top, shares, hides}
use Rattle.resb_pool.specs.declared.packing.Packing.TheVariants.{Compact}
use Rattle.resb_pool.specs.declared.suffix_order.Row.{Row}
use Rattle.resb_pool.proofs.EndLetters.{letters_extend}
use Rattle.resb_pool.proofs.SuffixOrder.{extends_not_after}
use Rattle.resb_pool.proofs.SuffixRuns.{ends_trans, in_texts, is_utf8, one_place, none_ends}
use Rattle.resb_pool.proofs.SuffixRuns.{lies_itself, still_greatest}
use Rattle.resb_pool.proofs.TextLists.{TextList}

-- a top is a record
record_of_top : (T : TextList) (s : List ℕ) → IsTop (Contains T) s → IsRecord T s
record_of_top T s h = record { given = h.given; nonempty = h.nonempty; alone = inr h.alone }

-- what a step makes of the text s of an index
pub record IsMade (T : TextList) (s : List ℕ) (index top container : ℕ) (hidden : List ℕ)
    : Type 0 where
  pub next : 0 < length s → (top < length T) × IsTopOf T s (indexed_text T top)
  pub lies : LiesAt Compact T index container
  pub told : IsToldHidden (Contains T) T hidden index

-- a step hides no other text than its own, and none that was hidden comes to light
pub hidden_more : {p s : List ℕ} {i top next c : ℕ} {hs new : List ℕ}
    → StepsTo p s i top hs next c new → (x : ℕ) → Contains new x → Contains hs x ⊎ (i ≡ x)
hidden_more (new_top none) x h = inl h
hidden_more (shares e u) x h = inl h
hidden_more {i} {hs} (hides e m) x h = Contains-push_cases hs i x h

pub hidden_keep : {p s : List ℕ} {i top next c : ℕ} {hs new : List ℕ}
    → StepsTo p s i top hs next c new → (x : ℕ) → Contains hs x → Contains new x
hidden_keep (new_top none) x h = h
hidden_keep (shares e u) x h = h
hidden_keep {i} {hs} (hides e m) x h = Contains-append_left hs (i ∷ []) x h

-- what was told of another text stays told
pub told_keep : (T : TextList) {p s : List ℕ} {i top next c : ℕ} {hs new : List ℕ}
    → StepsTo p s i top hs next c new → (x : ℕ) → (i ≡ x → ⊥) → IsToldHidden (Contains T) T hs x
    → IsToldHidden (Contains T) T new x
told_keep T step x other told r = elim (told r) [
  | inl t ↦
      inl (
        t.0,
        λ c. elim (hidden_more step x c) [ inl d ↦ t.1 d | inr e ↦ other e ],
      )
  | inr h ↦ inr (h.0, hidden_keep step x h.1)
]

module _ (T : TextList) (utf8 : All IsUtf8 T) (once : EachOnce T) (rows : List Row)
    (o : AreInOrder Compact T rows) where
  abbrev at : ℕ → Row → List ℕ
  at j d = row_text T (get_or rows j d)

  abbrev index_at : ℕ → Row → ℕ
  index_at j d = (get_or rows j d).index

  -- one that doesn't end the text right before it
  made_top : (i : ℕ) (d : Row) → i < length rows
      → ((k : ℕ) → i ≡ k + 1 → IsEnd (at k d) (at i d) → ⊥)
      → (hs : List ℕ) → (Contains hs (index_at i d) → ⊥)
      → IsMade T (at i d) (index_at i d) (index_at i d) (index_at i d) hs
  made_top i d l none hs fresh = record {
    next = λ pos. (
      (o.each i d l).within,
      record {
        own = is_top pos;
        ends = record { front = []; is = refl };
        greatest = λ q x y. extends_not_after (letters_backwards Compact q)
            (letters_backwards Compact (at i d))
            (letters_extend Compact q (at i d) (All-contains IsUtf8 T q utf8 x.given)
            (is_utf8 Compact T utf8 once rows o i d l) y);
      },
    );
    lies = lies_itself Compact T utf8 once rows o i d l
        (λ pos. record_of_top T (at i d) (is_top pos));
    told = λ r. inl (is_top r.nonempty, fresh);
  }
    where
      is_top : 0 < length (at i d) → IsTop (Contains T) (at i d)
      is_top pos = record {
        given = in_texts Compact T utf8 once rows o i d l;
        nonempty = pos;
        alone = none_ends Compact T utf8 once rows o i d l
            (λ k e x. none k e (record { nonempty = pos; ends = x }));
      }

  module _ (k : ℕ) (d : Row) (l : k + 1 < length rows) (x : IsEnd (at k d) (at (k + 1) d)) where
    abbrev p : List ℕ
    p = at k d

    abbrev s : List ℕ
    s = at (k + 1) d

    abbrev m : k < length rows
    m = omega (arith, l)

    no_top : IsTop (Contains T) s → ⊥
    no_top h =
        let e = h.alone p (in_texts Compact T utf8 once rows o k d m) x.ends in
        omega (arith, one_place Compact T utf8 once rows o k (k + 1) d m l e)

    no_record : is_unmarked s ≡ true → IsRecord T s → ⊥
    no_record u h = elim h.alone [
      | inl e ↦ true≢false (sym u ∙ e)
      | inr only ↦ no_top (record { given = h.given; nonempty = h.nonempty; alone = only })
    ]

    -- the top of the text right before it is its top
    same_top : (r : List ℕ) → IsTopOf T p r → IsTopOf T s r
    same_top r t = record {
      own = t.own;
      ends = ends_trans r p s t.ends x.ends;
      greatest = still_greatest Compact T utf8 once rows o k d l (IsTop (Contains T))
          (λ q w. w.given) no_top r t.own t.ends t.greatest;
    }

    module _ (h : ℕ) (previous : 0 < length p → (h < length T) × IsTopOf T p (indexed_text T h))
      where
        long : 0 < length p
        long = omega (
          arith,
          x.nonempty,
          ap length x.ends.is,
          length-append x.ends.front s,
        )

        next : (h < length T) × IsTopOf T s (indexed_text T h)
        next = ((previous long).0, same_top (indexed_text T h) (previous long).1)

        made_shared : is_unmarked s ≡ true → (hs : List ℕ)
            → IsMade T s (index_at (k + 1) d) h h hs
        made_shared u hs = record {
          next = λ pos. next;
          lies = record {
            within = next.0;
            container = λ pos. record {
              own = record_of_top T (indexed_text T h) next.1.own;
              ends = next.1.ends;
              holds = inr next.1.own;
              greatest = λ q w y z g. elim z [
                | inl same ↦ no_record u (subst (IsRecord T) same w)
                | inr top ↦ next.1.greatest q top y g
              ];
            };
            itself = λ r. absurd (no_record u r);
            empty = λ z. absurd (omega (arith, z, x.nonempty));
          };
          told = λ r. absurd (no_record u r);
        }

        made_hidden : is_unmarked s ≡ false → (hs : List ℕ)
            → IsMade T s (index_at (k + 1) d) h (index_at (k + 1) d) (hs ++ index_at (k + 1) d ∷ [])
        made_hidden u hs = record {
          next = λ pos. next;
          lies = lies_itself Compact T utf8 once rows o (k + 1) d l (λ pos. record {
            given = in_texts Compact T utf8 once rows o (k + 1) d l;
            nonempty = pos;
            alone = inl u;
          });
          told = λ r. inr (no_top, Contains-push hs (index_at (k + 1) d));
        }

  -- p is the text right before row i, and h its top
  pub record IsPreviousTop (i : ℕ) (d : Row) (p : List ℕ) (h : ℕ) : Type 0 where
    pub first : i ≡ 0 → p ≡ []
    pub last : (k : ℕ) → i ≡ k + 1 → (p ≡ at k d)
        × (0 < length (at k d) → (h < length T) × IsTopOf T (at k d) (indexed_text T h))

  -- one that ends the text right before it is no first one
  behind_one : (i : ℕ) (d : Row) (p : List ℕ) (h : ℕ) → IsPreviousTop i d p h → IsEnd p (at i d)
      → (k : ℕ) × (i ≡ k + 1)
  behind_one i d p h before x = elim (cases_lt 0 i) [
    | inl m ↦ (i - 1, omega (arith, m))
    | inr m ↦
        let e : p ≡ [] = before.first (omega (arith, m)) in
        absurd (omega (
          arith,
          ap length x.ends.is,
          ap length e,
          x.nonempty,
          length-append x.ends.front (at i d),
        ))
  ]

  -- a step makes of each row's text what it has to be
  pub step_made : (i : ℕ) (d : Row) → i < length rows → {p : List ℕ} {top next c : ℕ}
      {hs new : List ℕ} → IsPreviousTop i d p top → (Contains hs (index_at i d) → ⊥)
      → StepsTo p (at i d) (index_at i d) top hs next c new
      → IsMade T (at i d) (index_at i d) next c new
  step_made i d l {p} {top} {hs} before fresh (new_top none) =
      made_top i d l (λ k e x. none (subst (λ z. IsEnd z (at i d)) (sym (before.last k e).0) x)) hs
      fresh
  step_made i d l {p} {top} {hs} before fresh (shares x u) =
      let b = behind_one i d p top before x in
      let at_next : (j : ℕ) → j ≡ b.0 + 1 → j < length rows → IsEnd (at b.0 d) (at j d)
      → is_unmarked (at j d) ≡ true → IsMade T (at j d) (index_at j d) top top hs =
      (λ j e. subst (λ (z : ℕ). z < length rows → IsEnd (at b.0 d) (at z d)
      → is_unmarked (at z d) ≡ true → IsMade T (at z d) (index_at z d) top top hs) (sym e)
      (λ m y v. made_shared b.0 d m y top (before.last b.0 b.1).1 v hs)) in
      at_next i b.1 l (subst (λ z. IsEnd z (at i d)) (before.last b.0 b.1).0 x) u
  step_made i d l {p} {top} {hs} before fresh (hides x u) =
      let b = behind_one i d p top before x in
      let at_next : (j : ℕ) → j ≡ b.0 + 1 → j < length rows → IsEnd (at b.0 d) (at j d)
      → is_unmarked (at j d) ≡ false
      → IsMade T (at j d) (index_at j d) top (index_at j d) (hs ++ index_at j d ∷ []) =
      (λ j e. subst (λ (z : ℕ). z < length rows → IsEnd (at b.0 d) (at z d)
      → is_unmarked (at z d) ≡ false
      → IsMade T (at z d) (index_at z d) top (index_at z d) (hs ++ index_at z d ∷ [])) (sym e)
      (λ m y v. made_hidden b.0 d m y top (before.last b.0 b.1).1 v hs)) in
      at_next i b.1 l (subst (λ z. IsEnd z (at i d)) (before.last b.0 b.1).0 x) u

-- In which record a compact file's string lies beside a pool: in the greatest top of the pool's
-- texts that ends with it, or in the greatest of the file's.
use Rattle.std.proofs.Common.{◌≡◌, ℕ, ◌<◌, List, [], ◌++◌, length, Bool, true, false, ◌⊎◌, inl, inr}
use Rattle.std.proofs.Common.{refl, sym, ◌∙◌, ap, subst, arith, true≢false, Option, Some, None}
use Rattle.std.proofs.Common.{MatchOption, length-append}
use Rattle.std.proofs.lemmas.Cmp.{tied_itself}
use Rattle.std.proofs.lemmas.List.Elements.{All-contains, Contains-append_left}
use Rattle.std.proofs.lemmas.List.Elements.{Contains-append_right, Contains-append_cases}
use Rattle.std.specs.List.{All, Contains}
use Rattle.std.specs.Str.{IsUtf8}
use Rattle.std.specs.declared.cmp.Ordering.TheVariants.{Less, Equal, Greater}
use Rattle.resb_format.specs.Units.{is_unmarked}
use Rattle.resb_pool.specs.Container.{IsContainer, IsTop}
use Rattle.resb_pool.specs.Order.{suffix_cmp}
use Rattle.resb_pool.specs.Records.{EndsWith, IsRecord}
use Rattle.resb_pool.specs.Inner.Tops.{IsTopOf}
use Rattle.resb_pool.specs.declared.packing.Packing.TheVariants.{Compact}
use Rattle.resb_pool.proofs.SuffixOrder.{end_last_total}
use Rattle.resb_lent.specs.Lending.{LendsTexts}
use Rattle.resb_lent.specs.LentBeside.{LentBeside, beside_empty, beside_within, LendsTextBy}
use Rattle.resb_lent.specs.LentTexts.{IsLentRecord, Holds}
use Rattle.resb_lent.specs.Inner.Tops.{Precedes}
use Rattle.resb_lent.specs.Inner.Within.{NoneHolds, StandsWithin, lent_list}
use Rattle.resb_lent.specs.declared.texts.LentTexts.{LentTexts}
use Rattle.resb_lent.proofs.Lying.{turned}
use Rattle.resb_lent.proofs.Together.{lent_of, in_list, answered}
use Rattle.resb_lent.proofs.TopsLemmas.{letters, Behind, ends_itself, ends_trans, ends_both}
use Rattle.resb_lent.proofs.TopsLemmas.{two_texts, ends_between, either_ends, top_exists}

-- what stands before another text isn't behind it
not_both : (t s : List ℕ) → suffix_cmp Compact t s ≡ Less → Behind s t
not_both t s less e =
    let g : suffix_cmp Compact t s ≡ Greater = turned (letters s) (letters t) Less e in cc

-- nor is it the same
not_same : (t s : List ℕ) → t ≡ s → suffix_cmp Compact t s ≡ Greater → ⊥
not_same t s e g =
    let f : suffix_cmp Compact t s ≡ Equal =
    ap (λ z. suffix_cmp Compact z s) e ∙ tied_itself end_last_total (letters s) in cc

-- what ends with a text that isn't empty isn't empty
pub full_too : (t s : List ℕ) → EndsWith t s → 0 < length s → 0 < length t
full_too t s h full = omega (arith, ap length h.is, length-append h.front s, full)

record_of : (T : List (List ℕ)) (q : List ℕ) → IsTop (Contains T) q → IsRecord T q
record_of T q x = record { given = x.given; nonempty = x.nonempty; alone = inr x.alone }

module _ (l : LentTexts) (block : List ℕ) (h : LendsTexts l block) (S : List (List ℕ))
    (utf8 : All IsUtf8 S) (s : List ℕ) (full : 0 < length s) (given : Contains S s)
    (none : NoneHolds block s s) (f : List ℕ) (k : IsContainer Compact S s f) where
  abbrev L : List (List ℕ)
  L = lent_list l

  abbrev A : List (List ℕ)
  A = L ++ S

  lent_utf8 : (t : List ℕ) → Contains L t → IsUtf8 t
  lent_utf8 t c = (lent_of l block h S utf8 t c).1.stands.utf8

  own_utf8 : (t : List ℕ) → Contains S t → IsUtf8 t
  own_utf8 t c = All-contains IsUtf8 S t utf8 c

  -- the pool has no record of the string itself
  not_lent : Contains L s → ⊥
  not_lent c = let x = lent_of l block h S utf8 s c in none x.0 x.1 (inl refl)

  -- a top of all texts is one of the pool's, or of the file's
  top_lent : (q : List ℕ) → Contains L q → IsTop (Contains A) q → IsTop (Contains L) q
  top_lent q c x = record {
    given = c;
    nonempty = x.nonempty;
    alone = λ t d. x.alone t (Contains-append_left L S t d);
  }

  top_own : (q : List ℕ) → Contains S q → IsTop (Contains A) q → IsTop (Contains S) q
  top_own q c x = record {
    given = c;
    nonempty = x.nonempty;
    alone = λ t d. x.alone t (Contains-append_right L S t d);
  }

  module _ (m : is_unmarked s ≡ true) where
    -- an unmarked record is a top
    only : (T : List (List ℕ)) → IsRecord T s → (t : List ℕ) → Contains T t → EndsWith t s → t ≡ s
    only T r = elim r.alone [
      | inl e ↦ absurd (true≢false (sym m ∙ e))
      | inr o ↦ o
    ]

    f_top : IsTop (Contains S) f
    f_top = elim k.holds [
      | inl e ↦ record {
        given = k.own.given;
        nonempty = k.own.nonempty;
        alone = λ t c x. only S (subst (IsRecord S) e k.own) t c (subst (EndsWith t) e x) ∙ sym e;
      }
      | inr t ↦ t
    ]

    f_utf8 : IsUtf8 f
    f_utf8 = own_utf8 f k.own.given

    -- no top of the file's texts that ends with the string is behind f
    f_last : (q : List ℕ) → IsTop (Contains S) q → EndsWith q s → Behind f q
    f_last q x y e = k.greatest q (record_of S q x) y (inr x) (turned (letters f) (letters q) Less e)

    -- the string is no record beside a text of the pool that ends with it
    no_record : (p : List ℕ) → Contains L p → EndsWith p s → IsRecord A s → ⊥
    no_record p c y r =
        not_lent (subst (Contains L) (only A r p (Contains-append_left L S p c) y) c)

    module _ (p : List ℕ) (t : IsTopOf L s p) (b : Precedes p f) where
      p_utf8 : IsUtf8 p
      p_utf8 = lent_utf8 p t.own.given

      -- no other text of the file ends with it
      p_alone : (q : List ℕ) → Contains S q → EndsWith q p → q ≡ p
      p_alone q c x =
          let (r, top, y) = top_exists S q c (full_too q p x t.own.nonempty) in
          let rp = ends_trans r q p y x in
          let fr = f_last r top (ends_trans r p s rp t.ends) in
          elim b [
            | inl pf ↦
                let e : r ≡ f = f_top.alone r top.given (ends_trans r p f rp pf) in
                let g : p ≡ f = ends_both p f pf (subst (λ z. EndsWith z p) e rp) in
                ends_both q p x (subst (λ z. EndsWith z q) (e ∙ sym g) y)
            | inr (other, less) ↦
                absurd (other (ends_between r f p (own_utf8 r top.given) f_utf8 p_utf8 rp fr
                (not_both f p less)))
          ]

      p_top : IsTop (Contains A) p
      p_top = record {
        given = Contains-append_left L S p t.own.given;
        nonempty = t.own.nonempty;
        alone = λ q c x. elim (Contains-append_cases L S q c) [
          | inl d ↦ t.own.alone q d x
          | inr d ↦ p_alone q d x
        ];
      }

      -- no top of the file's that ends with the string comes after it
      none_after : (q : List ℕ) → Contains S q → IsTop (Contains A) q → EndsWith q s
          → suffix_cmp Compact q p ≡ Greater → ⊥
      none_after q d top y g =
          let less : suffix_cmp Compact p q ≡ Less = turned (letters q) (letters p) Greater g in
          let fq = f_last q (top_own q d top) y in
          elim b [
            | inl pf ↦
                let e : q ≡ f = f_top.alone q d (ends_between p q f p_utf8 (own_utf8 q d) f_utf8 pf
                (not_both p q less) fq) in
                not_same q p (sym (top.alone p p_top.given (subst (EndsWith p) (sym e) pf))) g
            | inr (other, before) ↦
                fq (end_last_total.trans (letters f) (letters p) (letters q) before less)
          ]

      pool_holds : IsContainer Compact A s p
      pool_holds = record {
        own = record_of A p p_top;
        ends = t.ends;
        holds = inr p_top;
        greatest = λ q own y may g. elim (Contains-append_cases L S q own.given) [
          | inl d ↦ elim may [
            | inl e ↦ not_lent (subst (Contains L) e d)
            | inr top ↦ t.greatest q (top_lent q d top) y g
          ]
          | inr d ↦ elim may [
            | inl e ↦ no_record p t.own.given t.ends (subst (IsRecord A) e own)
            | inr top ↦ none_after q d top y g
          ]
        ];
      }

    -- no top of the pool's that ends with the string precedes f
    module _ (free : ((r : List ℕ) → IsTop (Contains L) r → EndsWith r s → ⊥)
        ⊎ ((p : List ℕ) × IsTopOf L s p × (Precedes p f → ⊥))) where
      -- then the pool has no text that ends with f
      none_lent : (t : List ℕ) → Contains L t → EndsWith t f → ⊥
      none_lent t c x =
          let (r, top, y) = top_exists L t c (full_too t f x k.own.nonempty) in
          let rf = ends_trans r t f y x in
          let rs = ends_trans r f s rf k.ends in
          elim free [
            | inl no_one ↦ no_one r top rs
            | inr (p, q, never) ↦ beside r top rf rs p q never
          ]
        where
          beside : (r : List ℕ) → IsTop (Contains L) r → EndsWith r f → EndsWith r s
              → (p : List ℕ) → IsTopOf L s p → (Precedes p f → ⊥) → ⊥
          beside r top rf rs p q never =
              let p_utf8 = lent_utf8 p q.own.given in
              let pr : Behind p r = (λ e. q.greatest r top rs (turned (letters p) (letters r) Less e))
              in
              let not_end : EndsWith p f → ⊥ = (λ e. never (inl e)) in
              let less : suffix_cmp Compact f p ≡ Less = elim (two_texts f p f_utf8 p_utf8) [
                | inl e ↦ e
                | inr (inl e) ↦ absurd (not_end (record { front = []; is = sym e }))
                | inr (inr e) ↦
                    absurd (not_end (ends_between r p f (lent_utf8 r top.given) p_utf8 f_utf8 rf pr
                    (not_both p f e)))
              ] in
              elim (either_ends f p) [
                | inl fp ↦
                    let e : r ≡ p = q.own.alone r top.given (ends_trans r f p rf fp) in
                    not_end (subst (λ z. EndsWith z f) e rf)
                | inr other ↦ never (inr (other, less))
              ]

      own_lacks : NoneHolds block f s
      own_lacks at x y =
          none_lent f (in_list l.records.items f at (h.complete f at x)) (ends_itself f)

      f_top_of_all : IsTop (Contains A) f
      f_top_of_all = record {
        given = Contains-append_right L S f k.own.given;
        nonempty = k.own.nonempty;
        alone = λ q c x. elim (Contains-append_cases L S q c) [
          | inl d ↦ absurd (none_lent q d x)
          | inr d ↦ f_top.alone q d x
        ];
      }

      -- no top of the pool's that ends with the string comes after f
      none_of_pool : (q : List ℕ) → Contains L q → IsTop (Contains A) q → EndsWith q s
          → suffix_cmp Compact q f ≡ Greater → ⊥
      none_of_pool q d top y g = elim free [
        | inl no_one ↦ no_one q (top_lent q d top) y
        | inr (p, t, never) ↦ after p t never
      ]
        where
          before : suffix_cmp Compact f q ≡ Less
          before = turned (letters q) (letters f) Greater g

          after : (p : List ℕ) → IsTopOf L s p → (Precedes p f → ⊥) → ⊥
          after p t never =
              let p_utf8 = lent_utf8 p t.own.given in
              let q_utf8 = lent_utf8 q d in
              let pq : Behind p q = (λ e. t.greatest q (top_lent q d top) y
              (turned (letters p) (letters q) Less e)) in
              let less : suffix_cmp Compact f p ≡ Less = elim (two_texts q p q_utf8 p_utf8) [
                | inl e ↦ end_last_total.trans (letters f) (letters q) (letters p) before e
                | inr (inl e) ↦ subst (λ z. suffix_cmp Compact f z ≡ Less) e before
                | inr (inr e) ↦ absurd (pq e)
              ] in
              elim (either_ends f p) [
                | inl fp ↦
                    let e : q ≡ p = t.own.alone q d (ends_between f q p f_utf8 q_utf8 p_utf8 fp
                    (not_both f q before) pq) in
                    let x = top.alone f f_top_of_all.given (subst (EndsWith f) (sym e) fp) in
                    not_same q f (sym x) g
                | inr other ↦ never (inr (other, less))
              ]

      own_holds : IsContainer Compact A s f
      own_holds = record {
        own = record_of A f f_top_of_all;
        ends = k.ends;
        holds = inr f_top_of_all;
        greatest = λ q own y may g. elim (Contains-append_cases L S q own.given) [
          | inl d ↦ elim may [
            | inl e ↦ not_lent (subst (Contains L) e d)
            | inr top ↦ none_of_pool q d top y g
          ]
          | inr d ↦ elim may [
            | inl e ↦
                not_same q f (e ∙ sym (only A (subst (IsRecord A) e own) f f_top_of_all.given k.ends))
                g
            | inr top ↦ k.greatest q (record_of S q (top_own q d top)) y (inr (top_own q d top)) g
          ]
        ];
      }

  -- no record but its own holds a marked text
  marked_nowhere : is_unmarked s ≡ false → (i : ℕ) → LentBeside block S s i → ⊥
  marked_nowhere m i b = by s refl i b
    where
      by : (z : List ℕ) → z ≡ s → (i : ℕ) → LentBeside block S z i → ⊥
      by z e i (beside_empty b) = omega (arith, full, ap length e)
      by z e i (beside_within {r = r} {at = at} some lies g) =
          elim (subst (Holds r) e lies.holds) [
            | inl same ↦ none at (subst (λ t. IsLentRecord block t at) same lies.own) (inl refl)
            | inr held ↦ true≢false (sym held.unmarked ∙ m)
          ]

  marked_within : is_unmarked s ≡ false → (p : List ℕ) (i : ℕ) → StandsWithin block p s i → ⊥
  marked_within m p i w = elim w.holds [
    | inl same ↦ none w.at (subst (λ t. IsLentRecord block t w.at) same w.own) (inl refl)
    | inr held ↦ true≢false (sym held.unmarked ∙ m)
  ]

  pub held_by_own : ((r : List ℕ) → IsTop (Contains L) r → EndsWith r s → ⊥)
      ⊎ ((p : List ℕ) × IsTopOf L s p × (Precedes p f → ⊥))
      → LendsTextBy Compact block S s None
  held_by_own free = by (is_unmarked s) refl
    where
      by : (b : Bool) → is_unmarked s ≡ b → LendsTextBy Compact block S s None
      by true m = answered l block h S utf8 s full given f (f_utf8 m) (own_holds m free) none None
          (own_lacks m free)
      by false m = marked_nowhere m

  pub held_by_top : (p : List ℕ) → IsTopOf L s p → Precedes p f → (o : Option ℕ)
      → MatchOption o (NoneHolds block p s) (StandsWithin block p s)
      → LendsTextBy Compact block S s o
  held_by_top p t b o x = by (is_unmarked s) refl o x
    where
      by : (b : Bool) → is_unmarked s ≡ b → (o : Option ℕ)
          → MatchOption o (NoneHolds block p s) (StandsWithin block p s)
          → LendsTextBy Compact block S s o
      by true m o x = answered l block h S utf8 s full given p (p_utf8 m p t b) (pool_holds m p t b)
          none o x
      by false m None x = marked_nowhere m
      by false m (Some i) x = absurd (marked_within m p i x)

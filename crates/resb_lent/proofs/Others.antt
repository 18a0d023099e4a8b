-- How each string stands beside the pool's texts, and that a compact file's string lies where it
-- lies among those strings alone that may hold it.
use Rattle.std.proofs.Common.{◌≡◌, ℕ, zero, suc, ◌+◌, ◌<◌, List, [], ◌∷◌, ◌++◌, length, get_or}
use Rattle.std.proofs.Common.{Option, Some, None, inl, inr, refl, sym, ◌∙◌, ap, subst, arith}
use Rattle.std.proofs.Common.{◌⊎◌, Bool, true, false, ◌||◌, ◌-◌, reverse, true≢false}
use Rattle.std.specs.Prelude.{slice_get}
use Rattle.std.specs.List.{Contains}
use Rattle.std.proofs.lemmas.Bool.{cases_lt}
use Rattle.std.proofs.lemmas.List.{get_or_default, reverse-append, length-reverse}
use Rattle.resb_pool.specs.Container.{IsTop}
use Rattle.resb_pool.specs.Records.{EndsWith}
use Rattle.resb_pool.specs.declared.packing.Packing.TheVariants.{Compact}
use Rattle.resb_lent.specs.LentBeside.{IsLent, IsTextBeside, MayHoldBeside}
use Rattle.resb_lent.specs.LentBeside.{LentBeside, beside_empty, beside_within, LendsTextBy}
use Rattle.resb_lent.specs.LentTexts.{Holds}
use Rattle.resb_lent.specs.Inner.Chosen.{IsMarked, IsChosen, AreChosen, AreOthers}
use Rattle.resb_lent.specs.Inner.Marks.{mark_with, last_mark, is_hit}
use Rattle.resb_lent.specs.Inner.LentEndings.{StandsAs, AreStandings, standing_none, standing_more}
use Rattle.resb_lent.specs.declared.texts.Standing.{Standing}
use Rattle.resb_lent.specs.declared.texts.Standing.TheVariants.{End}
use Rattle.resb_lent.proofs.Lying.{ends_of}
use Rattle.resb_lent.proofs.TopsLemmas.{ends_trans, ends_itself}
use Rattle.resb_lent.proofs.Union.{full_too}

-- one text more at the end
pub standing_push : (block : List ℕ) (ss : List (List ℕ)) (ds : List Standing) (s : List ℕ)
    (d : Standing) → AreStandings block ss ds → StandsAs block s d
    → AreStandings block (ss ++ s ∷ []) (ds ++ d ∷ [])
standing_push block [] [] s d standing_none h = standing_more h standing_none
standing_push block (t ∷ ss) (e ∷ ds) s d (standing_more x more) h =
    standing_more x (standing_push block ss ds s d more h)
standing_push block [] (e ∷ ds) s d x h = elim x [ ]
standing_push block (t ∷ ss) [] s d x h = elim x [ ]

-- what is told of the text at a place
pub record StandsThere (block : List ℕ) (s : List ℕ) (ds : List Standing) (i : ℕ) : Type 0 where
  pub standing : Standing
  pub there : slice_get ds i ≡ Some standing
  pub at : (d : Standing) → get_or ds i d ≡ standing
  pub stands : StandsAs block s standing

pub standing_at : (block : List ℕ) (S : List (List ℕ)) (ds : List Standing)
    → AreStandings block S ds → (i : ℕ) → i < length S
    → StandsThere block (get_or S i []) ds i
standing_at block [] [] standing_none i l = absurd (omega (arith, l))
standing_at block (s ∷ S) (e ∷ ds) (standing_more {d = d} x more) zero l =
    record { standing = d; there = refl; at = λ z. refl; stands = x }
standing_at block (s ∷ S) (e ∷ ds) (standing_more x more) (suc i) l =
    let h = standing_at block S ds more i (omega (arith, l)) in
    record { standing = h.standing; there = h.there; at = h.at; stands = h.stands }
standing_at block [] (e ∷ ds) x i l = elim x [ ]
standing_at block (s ∷ S) [] x i l = elim x [ ]

-- a byte more tells a mark
pub mark_more : (n : ℕ) → 0 < n → (m b : ℕ) (bs : List ℕ)
    → last_mark n m (b ∷ bs) ≡ last_mark (n - 1) (mark_with m b) bs
mark_more zero l m b bs = absurd (omega (arith, l))
mark_more (suc n) l m b bs = let e : n ≡ suc n - 1 = omega arith in
    ap (λ k. last_mark k (mark_with m b) bs) e

pub mark_none : (n m : ℕ) → last_mark n m [] ≡ m
mark_none zero m = refl
mark_none (suc n) m = refl

-- and so whether one is hit
pub hit_more : (marks : List Bool) (n : ℕ) → 0 < n → (m b : ℕ) (bs : List ℕ)
    → is_hit marks n m (b ∷ bs) ≡ (get_or marks (mark_with m b) false
    || is_hit marks (n - 1) (mark_with m b) bs)
hit_more marks zero l m b bs = absurd (omega (arith, l))
hit_more marks (suc n) l m b bs = let e : n ≡ suc n - 1 = omega arith in
    ap (λ k. get_or marks (mark_with m b) false || is_hit marks k (mark_with m b) bs) e

pub hit_none : (marks : List Bool) (n m : ℕ) → is_hit marks n m [] ≡ false
hit_none marks zero m = refl
hit_none marks (suc n) m = refl

pub hit_over : (marks : List Bool) (n : ℕ) → n ≡ 0 → (m : ℕ) (bs : List ℕ)
    → is_hit marks n m bs ≡ false
hit_over marks zero e m bs = refl
hit_over marks (suc n) e m bs = absurd (omega (arith, e))

-- a text whose mark was noted is hit, whatever stands before it
hits : (marks : List Bool) (n m : ℕ) (bs rest : List ℕ) → 0 < n → 0 < length bs
    → get_or marks (last_mark n m bs) false ≡ true → is_hit marks n m (bs ++ rest) ≡ true
hits marks zero m bs rest l f e = absurd (omega (arith, l))
hits marks (suc n) m [] rest l f e = absurd (omega (arith, f))
hits marks (suc zero) m (b ∷ bs) rest l f e =
    ap (λ z. z || is_hit marks zero (mark_with m b) (bs ++ rest)) e
hits marks (suc (suc n)) m (b ∷ []) rest l f e =
    ap (λ z. z || is_hit marks (suc n) (mark_with m b) rest) e
hits marks (suc (suc n)) m (b ∷ c ∷ bs) rest l f e =
    ap (λ z. get_or marks (mark_with m b) false || z)
    (hits marks (suc n) (mark_with m b) (c ∷ bs) rest (omega arith) (omega arith) e)
    ∙ or_true (get_or marks (mark_with m b) false)
  where
    or_true : (b : Bool) → (b || true) ≡ true
    or_true true = refl
    or_true false = refl

marked_hit : (marks : List Bool) (t s : List ℕ) → EndsWith t s → 0 < length s
    → IsMarked marks s → is_hit marks 4 0 (reverse t) ≡ true
marked_hit marks t s e full h =
    ap (λ z. is_hit marks 4 0 z) (ap reverse e.is ∙ reverse-append e.front s)
    ∙ hits marks 4 0 (reverse s) (reverse e.front) (omega arith)
    (omega (arith, full, length-reverse s)) h

-- below the next number is below this one, or this one
pub old_or_new : (n k : ℕ) → k < n + 1 → (k < n) ⊎ (k ≡ n)
old_or_new n k l = elim (cases_lt k n) [ inl h ↦ inl h | inr h ↦ inr (omega (arith, h, l)) ]

-- how the text at a place stands, whatever else would be told past the end
pub same_at : (ds : List Standing) (i at : ℕ) (d e : Standing) → i ≡ at → i < length ds
    → get_or ds at e ≡ get_or ds i d
same_at ds i at d e m l = ap (λ k. get_or ds k e) (sym m) ∙ get_or_default ds i e d l

pub chosen_same : (marks : List Bool) (s t : List ℕ) (d e : Standing) (r : List ℕ) → s ≡ t → d ≡ e
    → IsChosen marks s d r → IsChosen marks t e r
chosen_same marks s t d e r p q h =
    subst (λ z. IsChosen marks t z r) q (subst (λ z. IsChosen marks z d r) p h)

-- a text that ends one of the pool's is chosen
pub kept_end : (S : List (List ℕ)) (ds : List Standing) (O : List (List ℕ)) (k : AreChosen S ds O)
    (i : ℕ) (d : Standing) → i < length S → get_or ds i d ≡ End → 0 < length (get_or S i [])
    → get_or O i [] ≡ get_or S i []
kept_end S ds O k i d l e full = elim (k.each i d l) [
  | inl q ↦ q
  | inr (q, inl (j, w)) ↦ let f = sym e ∙ w in cc
  | inr (q, inr none) ↦
      absurd (true≢false (sym (marked_hit k.marks (get_or S i []) (get_or S i [])
      (ends_itself (get_or S i [])) full (k.marked i d l e)) ∙ none))
]

-- what is chosen are the others of each text whose last byte is marked
module _ (block : List ℕ) (S : List (List ℕ)) (ds : List Standing) (O : List (List ℕ))
    (h : AreStandings block S ds) (k : AreChosen S ds O) where
  chosen_to : (t : List ℕ) → Contains O t → Contains S t ⊎ (t ≡ [])
  chosen_to t (i, l, is) =
      let m : i < length S = omega (arith, l, k.len) in
      let at : get_or O i [] ≡ t = get_or_default O i [] t l ∙ is in
      let there = standing_at block S ds h i m in
      elim (k.each i there.standing m) [
        | inl e ↦ inl (i, m, get_or_default S i t [] m ∙ sym e ∙ at)
        | inr e ↦ inr (sym at ∙ e.0)
      ]

  module _ (s : List ℕ) (full : 0 < length s) (m : IsMarked k.marks s) where
    chosen_from : (t : List ℕ) → Contains S t → EndsWith t s → Contains O t ⊎ IsLent block t
    chosen_from t (i, l, is) e =
        let at : get_or S i [] ≡ t = get_or_default S i [] t l ∙ is in
        let n : i < length O = omega (arith, l, k.len) in
        let there = standing_at block S ds h i l in
        elim (k.each i there.standing l) [
          | inl q ↦ inl (i, n, get_or_default O i t [] n ∙ q ∙ at)
          | inr (q, inl (j, w)) ↦
              let stands = subst (StandsAs block (get_or S i []))
              (sym (there.at there.standing) ∙ w) there.stands in
              inr (subst (IsLent block) at (stands.at, stands.own))
          | inr (q, inr none) ↦
              absurd (true≢false (sym (marked_hit k.marks (get_or S i []) s
              (subst (λ z. EndsWith z s) (sym at) e) full m) ∙ none))
        ]

    pub chosen_others : AreOthers block S O s
    chosen_others = record { to = chosen_to; from = chosen_from }

module _ (block : List ℕ) (S O : List (List ℕ)) (s : List ℕ) (h : AreOthers block S O s) where
  text_from : (t : List ℕ) → EndsWith t s → IsTextBeside block S t → IsTextBeside block O t
  text_from t e c = elim c [ inl x ↦ h.from t x e | inr x ↦ inr x ]

  text_to : (t : List ℕ) → 0 < length t → IsTextBeside block O t → IsTextBeside block S t
  text_to t full c = elim c [
    | inl x ↦ elim (h.to t x) [
      | inl y ↦ inl y
      | inr e ↦ absurd (omega (arith, full, ap length e))
    ]
    | inr x ↦ inr x
  ]

  top_to : (t : List ℕ) → EndsWith t s → IsTop (IsTextBeside block O) t
      → IsTop (IsTextBeside block S) t
  top_to t e x = record {
    given = text_to t x.nonempty x.given;
    nonempty = x.nonempty;
    alone = λ q c f. x.alone q (text_from q (ends_trans q t s f e) c) f;
  }

  top_from : (t : List ℕ) → EndsWith t s → IsTop (IsTextBeside block S) t
      → IsTop (IsTextBeside block O) t
  top_from t e x = record {
    given = text_from t e x.given;
    nonempty = x.nonempty;
    alone = λ q c f. x.alone q (text_to q (full_too q t f x.nonempty) c) f;
  }

  may_to : (r : List ℕ) → Holds r s → MayHoldBeside block O s r → MayHoldBeside block S s r
  may_to r y m = elim m [ inl x ↦ inl x | inr x ↦ inr (top_to r (ends_of r s y) x) ]

  may_from : (r : List ℕ) → Holds r s → MayHoldBeside block S s r → MayHoldBeside block O s r
  may_from r y m = elim m [ inl x ↦ inl x | inr x ↦ inr (top_from r (ends_of r s y) x) ]

  module _ (full : 0 < length s) where
    lent_to : (i : ℕ) → LentBeside block O s i → LentBeside block S s i
    lent_to i b = by s refl i b
      where
        by : (z : List ℕ) → z ≡ s → (i : ℕ) → LentBeside block O z i → LentBeside block S s i
        by z e i (beside_empty b) = absurd (omega (arith, full, ap length e))
        by z e i (beside_within {r = r} some x f) =
            subst (λ w. LentBeside block S w i) e (beside_within some (record {
              own = x.own;
              may = subst (λ w. MayHoldBeside block S w r) (sym e)
                  (may_to r (subst (Holds r) e x.holds)
                  (subst (λ w. MayHoldBeside block O w r) e x.may));
              holds = x.holds;
              greatest = λ q m y. x.greatest q
                  (subst (λ w. MayHoldBeside block O w q) (sym e)
                  (may_from q (subst (Holds q) e y) (subst (λ w. MayHoldBeside block S w q) e m)))
                  y;
              first = x.first;
            }) f)

    lent_from : (i : ℕ) → LentBeside block S s i → LentBeside block O s i
    lent_from i b = by s refl i b
      where
        by : (z : List ℕ) → z ≡ s → (i : ℕ) → LentBeside block S z i → LentBeside block O s i
        by z e i (beside_empty b) = absurd (omega (arith, full, ap length e))
        by z e i (beside_within {r = r} some x f) =
            subst (λ w. LentBeside block O w i) e (beside_within some (record {
              own = x.own;
              may = subst (λ w. MayHoldBeside block O w r) (sym e)
                  (may_from r (subst (Holds r) e x.holds)
                  (subst (λ w. MayHoldBeside block S w r) e x.may));
              holds = x.holds;
              greatest = λ q m y. x.greatest q
                  (subst (λ w. MayHoldBeside block S w q) (sym e)
                  (may_to q (subst (Holds q) e y) (subst (λ w. MayHoldBeside block O w q) e m)))
                  y;
              first = x.first;
            }) f)

    -- what the pool has of a string
    pub lends_to : (o : Option ℕ) → LendsTextBy Compact block O s o
        → LendsTextBy Compact block S s o
    lends_to (Some i) x = lent_to i x
    lends_to None x = λ i b. x i (lent_from i b)

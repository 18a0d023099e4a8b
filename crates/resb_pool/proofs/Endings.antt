-- Strings that a text beside the file ends with: their texts, and what is hidden with them.
use Rattle.std.proofs.Common.{◌≡◌, ℕ, ◌<◌, List, [], ◌++◌, length, map, get_or, ◌⊎◌, inl, inr}
use Rattle.std.proofs.Common.{◌↔◌, refl, sym, ◌∙◌, ap, subst, arith}
use Rattle.std.specs.Prelude.{slice_index}
use Rattle.std.specs.List.{All, Contains}
use Rattle.std.proofs.lemmas.List.{get_or-map, length-map, get_or_default}
use Rattle.std.proofs.lemmas.List.Elements.{All-append, Contains-append_left}
use Rattle.std.proofs.lemmas.List.Elements.{Contains-append_right, Contains-append_cases}
use Rattle.resb_pool.specs.Records.{EachOnce}
use Rattle.resb_pool.specs.Container.{IsTop}
use Rattle.resb_pool.specs.Ended.{AreEnded}
use Rattle.resb_pool.specs.Inner.Placing.{indexed_text, AreHidden, AreTurns}
use Rattle.resb_pool.specs.declared.packing.Packing.{Packing}
use Rattle.resb_pool.specs.declared.packing.Packing.TheVariants.{Plain, Compact}
use Rattle.resb_pool.proofs.Distinct.{has_text, index_of, one_index}
use Rattle.resb_pool.proofs.PlacingLemmas.{top_from}
use Rattle.resb_pool.proofs.TextLists.{TextList}

-- where there are no other texts, none is such a string
pub ended_none : (way : Packing) (S : TextList) → AreEnded way S S []
ended_none Plain S = refl
ended_none Compact S = record {
  covers = λ s c. c;
  each = λ i l top. inl (top, λ c. omega (arith, c.1));
}

-- a top of all texts is one of those among them that it is
fewer_tops : (A T : TextList) → ((s : List ℕ) → Contains T s → Contains A s) → (s : List ℕ)
    → Contains T s → IsTop (Contains A) s → IsTop (Contains T) s
fewer_tops A T covers s c h = record {
  given = c;
  nonempty = h.nonempty;
  alone = λ t d. h.alone t (covers t d);
}

-- what is hidden among the texts, and those that a text beside them ends with
pub hidden_too : (way : Packing) (A T : TextList) (hs es : List ℕ)
    → AreHidden way (Contains T) T hs → All (λ i. i < length T) es → AreEnded way A T es
    → AreHidden way (Contains A) T (hs ++ es)
hidden_too Plain A T hs es h w e = ap (λ z. z ++ es) h ∙ e
hidden_too Compact A T hs es h w e = record {
  within = All-append (λ i. i < length T) hs es h.within w;
  each = λ i l r. elim (h.each i l r) [
    | inl t ↦ elim (e.each i l t.0) [
      | inl a ↦
          inl (a.0, λ c. elim (Contains-append_cases hs es i c) [ inl x ↦ t.1 x | inr x ↦ a.1 x ])
      | inr n ↦ inr (n.0, Contains-append_right hs es i n.1)
    ]
    | inr n ↦
        inr (
          λ top. n.0 (fewer_tops A T e.covers (indexed_text T i) (has_text T i l) top),
          Contains-append_left hs es i n.1,
        )
  ];
}

-- the indexes of the texts of strings
abbrev pub indexes : List ℕ → List ℕ → List ℕ
indexes order numbers = map (slice_index order) numbers

module _ (S T : TextList) (order : List ℕ) (turns : AreTurns S T order) where
  many : length order ≡ length S
  many = sym (length-map order (indexed_text T)) ∙ ap length turns.texts

  text_of : (i : ℕ) → i < length S → indexed_text T (get_or order i 0) ≡ indexed_text S i
  text_of i l =
      sym (get_or-map (indexed_text T) order i 0 [] (omega (arith, l, many)))
      ∙ ap (λ (z : TextList). get_or z i []) turns.texts

  index_within : (i : ℕ) → i < length S → get_or order i 0 < length T
  index_within i l = turns.within i 0 (omega (arith, l, many))

  -- they are those of texts
  pub indexes_within : (es : List ℕ) → All (λ i. i < length S) es
      → All (λ i. i < length T) (indexes order es)
  indexes_within es w k d l =
      let m : k < length es = omega (arith, l, length-map es (slice_index order)) in
      let e : slice_index order (get_or es k 0) ≡ get_or (indexes order es) k d =
      sym (get_or-map (slice_index order) es k 0 d m) in
      subst (λ z. z < length T) e (index_within (get_or es k 0) (w k 0 m))

  module _ (same : (s : List ℕ) → Contains T s ↔ Contains S s) (once : EachOnce T) (A : TextList)
      (es : List ℕ) (w : All (λ i. i < length S) es) where
    -- the index of such a string's text
    there : (i q : ℕ) → i < length S → q < length T → indexed_text S i ≡ indexed_text T q
        → Contains es i → Contains (indexes order es) q
    there i q l m e c =
        let f : get_or order i 0 ≡ q =
        one_index T (get_or order i 0) q once (index_within i l) m (text_of i l ∙ e) in (
          c.0,
          omega (arith, c.1, length-map es (slice_index order)),
          get_or-map (slice_index order) es c.0 i q c.1
              ∙ ap (slice_index order) (get_or_default es c.0 i i c.1 ∙ c.2) ∙ f,
        )

    -- and a string to it
    back : (q : ℕ) → q < length T → Contains (indexes order es) q
        → (j : ℕ) × (j < length S) × Contains es j × (indexed_text S j ≡ indexed_text T q)
    back q m c =
        let l : c.0 < length es = omega (arith, c.1, length-map es (slice_index order)) in
        let j = get_or es c.0 0 in
        let f : get_or order j 0 ≡ q =
        sym (get_or-map (slice_index order) es c.0 0 q l) ∙ c.2 in
        let n : j < length S = w c.0 0 l in (
          j,
          n,
          (c.0, l, get_or_default es c.0 j 0 l),
          sym (text_of j n) ∙ ap (indexed_text T) f,
        )

    pub ended_texts : (way : Packing) → AreEnded way A S es → AreEnded way A T (indexes order es)
    ended_texts Plain h = ap (indexes order) h
    ended_texts Compact h = record {
      covers = λ s c. h.covers s ((same s).0 c);
      each = λ q m top. by q m top (index_of S (indexed_text T q) ((same (indexed_text T q)).0
          (has_text T q m)));
    }
      where
        tops : (q i : ℕ) → indexed_text S i ≡ indexed_text T q
            → IsTop (Contains T) (indexed_text T q)
            → IsTop (Contains S) (indexed_text S i)
        tops q i e top = subst (IsTop (Contains S)) (sym e)
            (top_from T S same (indexed_text T q) top)

        by : (q : ℕ) → q < length T → IsTop (Contains T) (indexed_text T q)
            → (i : ℕ) × (i < length S) × (indexed_text S i ≡ indexed_text T q)
            → (IsTop (Contains A) (indexed_text T q) × (Contains (indexes order es) q → ⊥))
            ⊎ ((IsTop (Contains A) (indexed_text T q) → ⊥) × Contains (indexes order es) q)
        by q m top (i, l, e) = elim (h.each i l (tops q i e top)) [
          | inl a ↦
              let t : IsTop (Contains A) (indexed_text T q) = subst (IsTop (Contains A)) e a.0 in
              inl (
                t,
                λ c. let (j, n, d, f) = back q m c in
                    elim (h.each j n (tops q j f top)) [
                      | inl b ↦ b.1 d
                      | inr b ↦ b.0 (subst (IsTop (Contains A)) (sym f) t)
                    ],
              )
          | inr b ↦ inr (λ t. b.0 (subst (IsTop (Contains A)) (sym e) t), there i q l m e b.1)
        ]

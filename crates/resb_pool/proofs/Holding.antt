-- Strings told apart, and in whose record each of them lies.
use Rattle.std.proofs.Common.{◌≡◌, ℕ, ◌<◌, List, [], ◌∷◌, ◌++◌, length, map, get_or, Bor, Bool}
use Rattle.std.proofs.Common.{true, false, cond, inl, inr, ◌↔◌, refl, sym, ◌∙◌, ap, subst, arith}
use Rattle.std.specs.Prelude.{slice_index}
use Rattle.std.specs.List.{All, Contains, list_any}
use Rattle.std.specs.Str.{IsUtf8}
use Rattle.std.proofs.lemmas.List.{get_or-map, length-map, map_push, get_or_default}
use Rattle.std.proofs.lemmas.List.Elements.{All-nil, All-push, All-contains, Contains-append_left}
use Rattle.std.proofs.lemmas.List.Elements.{Contains-push, Contains-push_cases}
use Rattle.indexmap.specs.IndexSet.{insert_key}
use Rattle.resb_pool.specs.Records.{EachOnce}
use Rattle.resb_pool.specs.Holders.{AreHolders}
use Rattle.resb_pool.specs.Plan.{nows}
use Rattle.resb_pool.specs.Container.{IsContainer}
use Rattle.resb_pool.specs.Inner.Placing.{indexed_text, AreContainers}
use Rattle.resb_pool.specs.Inner.ToldApart.{AreTold}
use Rattle.resb_pool.specs.declared.packing.Packing.{Packing}
use Rattle.resb_pool.proofs.Distinct.{distinct_push, has_text}
use Rattle.resb_pool.proofs.Interning.{same_key, any_some, any_none}
use Rattle.resb_pool.proofs.PlacingLemmas.{container_from}
use Rattle.resb_pool.proofs.TextLists.{TextList}
use Rattle.resb_pool.proofs.Turns.{turn_more, one_more, no_turns}

-- no strings are told apart
pub none_told : AreTold [] [] []
none_told = record {
  utf8 = All-nil IsUtf8;
  once = tt;
  same = λ s. (λ c. c, λ c. c);
  turns_are = no_turns;
}

module _ (D : TextList) (ks new : List (Bor (List ℕ))) (t : Bor (List ℕ)) (turns : List ℕ)
    (h : AreTold D (nows ks) turns) (u : IsUtf8 t.now) (e : new ≡ insert_key same_key ks t) where
  record IsTaken : Type 0 where
    pub once : EachOnce (nows new)
    pub same : (s : List ℕ) → Contains (nows new) s ↔ Contains (D ++ t.now ∷ []) s

  taken : IsTaken
  taken = by (list_any (same_key t) ks) refl
    where
      by : (a : Bool) → list_any (same_key t) ks ≡ a → IsTaken
      by true g =
          let is : nows ks ≡ nows new =
          sym (ap nows (e ∙ ap (λ a. cond a ks (ks ++ t ∷ [])) g)) in
          record {
            once = subst EachOnce is h.once;
            same = λ s. (
              λ x. Contains-append_left D (t.now ∷ []) s
                  ((h.same s).0 (subst (λ (l : TextList). Contains l s) (sym is) x)),
              λ x. subst (λ (l : TextList). Contains l s) is
                  (elim (Contains-push_cases D t.now s x) [
                    | inl y ↦ (h.same s).1 y
                    | inr q ↦ subst (Contains (nows ks)) q (any_some ks t.now g)
                  ]),
            );
          }
      by false g =
          let is : nows ks ++ t.now ∷ [] ≡ nows new =
          sym (ap nows (e ∙ ap (λ a. cond a ks (ks ++ t ∷ [])) g)
          ∙ map_push (λ (y : Bor (List ℕ)). y.now) ks t) in
          record {
            once = subst EachOnce is (distinct_push (nows ks) t.now h.once (any_none ks t.now g));
            same = λ s. (
              λ x. elim (Contains-push_cases (nows ks) t.now s
                  (subst (λ (l : TextList). Contains l s) (sym is) x)) [
                    | inl y ↦ Contains-append_left D (t.now ∷ []) s ((h.same s).0 y)
                    | inr q ↦ subst (Contains (D ++ t.now ∷ [])) q (Contains-push D t.now)
                  ],
              λ x. subst (λ (l : TextList). Contains l s) is
                  (elim (Contains-push_cases D t.now s x) [
                    | inl y ↦ Contains-append_left (nows ks) (t.now ∷ []) s ((h.same s).1 y)
                    | inr q ↦
                        subst (Contains (nows ks ++ t.now ∷ [])) q (Contains-push (nows ks) t.now)
                  ]),
            );
          }

  -- one string more
  pub told_more : (i : ℕ) → i < length (nows new) → indexed_text (nows new) i ≡ t.now
      → AreTold (D ++ t.now ∷ []) (nows new) (turns ++ i ∷ [])
  told_more i l at = record {
    utf8 = All-push IsUtf8 D t.now h.utf8 u;
    once = taken.once;
    same = taken.same;
    turns_are = turn_more D ks new t turns h.turns_are i l at e;
  }

-- a string more whose text is known
pub told_again : (D : TextList) (ks : List (Bor (List ℕ))) (t : Bor (List ℕ)) (turns : List ℕ)
    → AreTold D (nows ks) turns → IsUtf8 t.now → (i : ℕ) → i < length (nows ks)
    → indexed_text (nows ks) i ≡ t.now → AreTold (D ++ t.now ∷ []) (nows ks) (turns ++ i ∷ [])
told_again D ks t turns h u i l at = record {
  utf8 = All-push IsUtf8 D t.now h.utf8 u;
  once = h.once;
  same = λ s. (
    λ x. Contains-append_left D (t.now ∷ []) s ((h.same s).0 x),
    λ x. elim (Contains-push_cases D t.now s x) [
      | inl y ↦ (h.same s).1 y
      | inr q ↦
          subst (Contains (nows ks)) q (subst (Contains (nows ks)) at (has_text (nows ks) i l))
    ],
  );
  turns_are = one_more D ks ks t turns h.turns_are i l at refl (omega arith) (omega arith);
}

-- each of distinct texts is one of the strings
pub told_utf8 : (S T : TextList) (turns : List ℕ) → AreTold S T turns → All IsUtf8 T
told_utf8 S T turns h i d l =
    All-contains IsUtf8 S (get_or T i d) h.utf8 ((h.same (get_or T i d)).0 (in_list T i d l))
  where
    in_list : (T : TextList) (i : ℕ) (d : List ℕ) → i < length T → Contains T (get_or T i d)
    in_list T i d l = (i, l, get_or_default T i (get_or T i d) d l)

-- each string lies where its text does
pub holders_are : (way : Packing) (S T R : TextList) (turns of : List ℕ) → AreTold S T turns
    → AreContainers way T of → R ≡ map (λ i. indexed_text T (slice_index of i)) turns
    → AreHolders way S R
holders_are way S T R turns of told at is = record {
  len = ap length is ∙ length-map turns (λ (i : ℕ). indexed_text T (slice_index of i))
      ∙ sym (length-map turns (indexed_text T)) ∙ ap length told.turns_are.texts;
  each = λ i l full.
      let many : length turns ≡ length S = sym (length-map turns (indexed_text T))
      ∙ ap length told.turns_are.texts in
      let m : i < length turns = omega (arith, l, many) in
      let k = get_or turns i 0 in
      let s : indexed_text T k ≡ get_or S i [] = sym (get_or-map (indexed_text T) turns i 0 [] m)
      ∙ ap (λ (l : TextList). get_or l i []) told.turns_are.texts in
      let r : indexed_text T (slice_index of k) ≡ get_or R i [] =
      sym (get_or-map (λ (j : ℕ). indexed_text T (slice_index of j)) turns i 0 [] m)
      ∙ ap (λ (l : TextList). get_or l i []) (sym is) in
      let lies = at.lies k (told.turns_are.within i 0 m) in
      let c = lies.container (omega (arith, full, ap length s)) in
      subst (λ z. IsContainer way S z (get_or R i [])) s
      (subst (IsContainer way S (indexed_text T k)) r
      (container_from T S told.same way (indexed_text T k) (indexed_text T (slice_index of k)) c));
}

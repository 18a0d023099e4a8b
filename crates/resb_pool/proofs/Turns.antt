-- The strings as the texts of indexes, one by one, and the offset of each.
use Rattle.std.proofs.Common.{◌≡◌, ℕ, ◌+◌, ◌*◌, ◌<◌, ◌≤◌, List, [], ◌∷◌, ◌++◌, length, map}
use Rattle.std.proofs.Common.{get_or, Bor}
use Rattle.std.proofs.Common.{Bool, true, false, cond, Option, Some, None, MatchOption, refl, sym}
use Rattle.std.proofs.Common.{◌∙◌, ap, arith}
use Rattle.std.specs.Prelude.{slice_get, slice_index, position}
use Rattle.std.specs.List.{All, Contains, list_any}
use Rattle.std.specs.Option.{option_and_then}
use Rattle.std.specs.Str.{bytes_eq}
use Rattle.std.proofs.lemmas.List.{get_or_append_left, length_push, map_push}
use Rattle.std.proofs.lemmas.List.Elements.{All-nil, All-tail, All-push}
use Rattle.std.proofs.lemmas.List.Sums.{sum_by-cons}
use Rattle.indexmap.specs.IndexSet.{insert_key}
use Rattle.resb_format.specs.Units.{units}
use Rattle.resb_pool.specs.Records.{EachOnce}
use Rattle.resb_pool.specs.Plan.{nows, texts_size}
use Rattle.resb_pool.specs.Inner.Placing.{indexed_text, AreTurns}
use Rattle.resb_pool.specs.Inner.LaidRecords.{HaveOffsets}
use Rattle.resb_pool.specs.declared.measure.Measure.{Measure}
use Rattle.resb_pool.specs.declared.packing.Packing.{Packing}
use Rattle.resb_pool.proofs.Distinct.{has_text, one_index}
use Rattle.resb_pool.proofs.Interning.{same_key}
use Rattle.resb_pool.proofs.PlanLemmas.{offset_at}
use Rattle.resb_pool.proofs.TextLists.{TextList}

abbrev Key : Type 0
Key = Bor (List ℕ)

-- strings are few, since each counts for 16
pub strings_few : (S : TextList) → 16 * length S ≤ texts_size S
strings_few [] = omega arith
strings_few (s ∷ S) = omega (
  arith,
  strings_few S,
  sum_by-cons (λ (r : List ℕ). 16 + length (units r)) s S,
)

-- no strings have no turns
pub no_turns : AreTurns [] [] []
no_turns = record {
  texts = refl;
  within = All-nil (λ i. i < 0);
  few = omega arith;
}

-- more texts behind the others have the same texts at the same indexes
pub grown : (T U : TextList) (turns : List ℕ) → All (λ i. i < length T) turns
    → map (indexed_text (T ++ U)) turns ≡ map (indexed_text T) turns
grown T U [] h = refl
grown T U (i ∷ turns) h =
    let l : i < length T = h 0 i (omega arith) in
    (λ j. get_or_append_left T U [] i l j
    ∷ grown T U turns (All-tail (λ k. k < length T) i turns h) j)

module _ (D : TextList) (ks new : List Key) (t : Key) (turns : List ℕ)
    (h : AreTurns D (nows ks) turns) (i : ℕ) (l : i < length (nows new))
    (at : indexed_text (nows new) i ≡ t.now) where
  -- one turn more, where the texts before stand where they stood
  pub one_more : map (indexed_text (nows new)) turns ≡ map (indexed_text (nows ks)) turns
      → length (nows ks) ≤ length (nows new) → length (nows new) ≤ length (nows ks) + 1
      → AreTurns (D ++ t.now ∷ []) (nows new) (turns ++ i ∷ [])
  one_more same least most = record {
    texts = map_push (indexed_text (nows new)) turns i
        ∙ (λ j. (same ∙ h.texts) j ++ at j ∷ []);
    within = All-push (λ k. k < length (nows new)) turns i
        (λ k d m. (let n : get_or turns k d < length (nows ks) = h.within k d m in
        omega (arith, n, least))) l;
    few = omega (arith, most, h.few, length_push turns i);
  }

  -- a set takes a key in
  pub turn_more : new ≡ insert_key same_key ks t
      → AreTurns (D ++ t.now ∷ []) (nows new) (turns ++ i ∷ [])
  turn_more e = by (list_any (same_key t) ks) refl
    where
      by : (a : Bool) → list_any (same_key t) ks ≡ a
          → AreTurns (D ++ t.now ∷ []) (nows new) (turns ++ i ∷ [])
      by true g =
          let is : nows new ≡ nows ks = ap nows (e ∙ ap (λ a. cond a ks (ks ++ t ∷ [])) g) in
          one_more (ap (λ z. map (indexed_text z) turns) is) (omega (arith, ap length is))
          (omega (arith, ap length is))
      by false g =
          let is : nows new ≡ nows ks ++ t.now ∷ [] =
          ap nows (e ∙ ap (λ a. cond a ks (ks ++ t ∷ [])) g)
          ∙ map_push (λ (y : Key). y.now) ks t in
          one_more (ap (λ z. map (indexed_text z) turns) is
          ∙ grown (nows ks) (t.now ∷ []) turns h.within)
          (omega (arith, ap length is, length_push (nows ks) t.now))
          (omega (arith, ap length is, length_push (nows ks) t.now))

-- each text has an offset
pub offsets_fit : (way : Packing) (A : List ℕ → Type 0) (T : TextList) (ms : List Measure)
    (us os : List ℕ) → HaveOffsets way A T ms us os → length os ≡ length T
offsets_fit way A T ms us os h = omega (
  arith,
  h.offsets_are.len,
  h.containers_are.len,
)

-- the offset of an index's text stands there
offset_there : (keys : List Key) (os : List ℕ) → length os ≡ length keys → EachOnce (nows keys)
    → (j : ℕ) → j < length (nows keys)
    → option_and_then (slice_get os)
    (position (λ (k : Key). bytes_eq (indexed_text (nows keys) j) k.now) keys)
    ≡ Some (get_or os j 0)
offset_there keys os e once j l =
    let s = indexed_text (nows keys) j in
    by (option_and_then (slice_get os) (position (λ (k : Key). bytes_eq s k.now) keys))
    (offset_at s keys os e)
  where
    by : (o : Option ℕ) → MatchOption o
        (Contains (nows keys) (indexed_text (nows keys) j) → ⊥) (λ k. (i : ℕ)
        × (i < length (nows keys)) × (indexed_text (nows keys) i ≡ indexed_text (nows keys) j)
        × (k ≡ get_or os i 0)) → o ≡ Some (get_or os j 0)
    by None f = absurd (f (has_text (nows keys) j l))
    by (Some k) f = ap Some (f.3 ∙ ap (λ z. get_or os z 0)
        (one_index (nows keys) f.0 j once f.1 l f.2))

-- so the offset of each string is the one at its index
pub offsets_there : (S : TextList) (keys : List Key) (turns os : List ℕ)
    → length os ≡ length keys → EachOnce (nows keys) → AreTurns S (nows keys) turns
    → map (λ s. option_and_then (slice_get os) (position (λ (k : Key). bytes_eq s k.now) keys)) S
    ≡ map Some (map (slice_index os) turns)
offsets_there S keys turns os e once h =
    ap (map offset) (sym h.texts) ∙ each turns h.within
  where
    offset : List ℕ → Option ℕ
    offset s = option_and_then (slice_get os) (position (λ (k : Key). bytes_eq s k.now) keys)

    each : (turns : List ℕ) → All (λ i. i < length (nows keys)) turns
        → map offset (map (indexed_text (nows keys)) turns) ≡ map Some (map (slice_index os) turns)
    each [] w = refl
    each (i ∷ turns) w =
        let there = offset_there keys os e once i (w 0 i (omega arith)) in
        (λ j. there j ∷ each turns (All-tail (λ k. k < length (nows keys)) i turns w) j)

-- Keys that are put into a map in turn, and the index that each has there.
use Rattle.std.proofs.Common.{◌≡◌, ℕ, zero, suc, ◌+◌, ◌<◌, ◌≤◌, List, [], ◌∷◌, ◌++◌, Bor, Bool}
use Rattle.std.proofs.Common.{true}
use Rattle.std.proofs.Common.{false, cond, not, All, length, map, get_or, refl, sym, ◌∙◌, ap}
use Rattle.std.proofs.Common.{arith}
use Rattle.std.specs.List.{position_or_len}
use Rattle.std.specs.Prelude.{slice_get, Some, None}
use Rattle.std.specs.Map.{keys_of}
use Rattle.std.specs.Str.{bytes_eq}
use Rattle.std.specs.Cmp.Lexicographic.{bytes_decides}
use Rattle.std.proofs.lemmas.List.{map_push, get_or-map}
use Rattle.std.proofs.lemmas.List.Elements.{All-push, All-head, All-tail}
use Rattle.indexmap.specs.IndexMap.{insert_entry}
use Rattle.resb_pool.specs.Plan.{nows}
use Rattle.resb_write.specs.Inner.Numbered.{AreNumbered}
use Rattle.resb_write.proofs.Lists.{all_wider}

abbrev Key : Type 0
Key = Bor (List ℕ)

-- whether two keys are one text
abbrev same_key : Key → Key → Bool
same_key x y = bytes_eq x.now y.now

-- the text of an index
abbrev at : List (List ℕ) → ℕ → List ℕ
at T n = get_or T n []

module _ {V : Type 0} where
  abbrev texts : List (Key × V) → List (List ℕ)
  texts es = nows (keys_of es)

  -- a key stands at the index that it was given
  put_at : (es : List (Key × V)) (k : Key) (v : V)
      → at (texts (insert_entry same_key es k v)) (position_or_len (same_key k) (keys_of es))
      ≡ k.now
  put_at [] k v = refl
  put_at (e ∷ es) k v = by (put_at es k v) (bytes_eq k.now e.0.now) refl
    where
      by : at (texts (insert_entry same_key es k v)) (position_or_len (same_key k) (keys_of es))
          ≡ k.now → (b : Bool) → bytes_eq k.now e.0.now ≡ b
          → at (texts (cond b ((e.0, v) ∷ es) (e ∷ insert_entry same_key es k v)))
          (cond (not b) (1 + position_or_len (same_key k) (keys_of es)) 0) ≡ k.now
      by rest true f = sym ((bytes_decides k.now e.0.now).0 f)
      by rest false f =
          let n : 1 + position_or_len (same_key k) (keys_of es)
          ≡ suc (position_or_len (same_key k) (keys_of es)) = omega arith in
          ap (at (texts (e ∷ insert_entry same_key es k v))) n ∙ rest

  -- the others stay
  keeps_at : (es : List (Key × V)) (k : Key) (v : V) (n : ℕ) → n < length (texts es)
      → at (texts (insert_entry same_key es k v)) n ≡ at (texts es) n
  keeps_at [] k v n h = absurd (omega (arith, h))
  keeps_at (e ∷ es) k v n h = by (keeps_at es k v) (bytes_eq k.now e.0.now) n h
    where
      by : ((m : ℕ) → m < length (texts es)
          → at (texts (insert_entry same_key es k v)) m ≡ at (texts es) m)
          → (b : Bool) (n : ℕ) → n < length (texts (e ∷ es))
          → at (texts (cond b ((e.0, v) ∷ es) (e ∷ insert_entry same_key es k v))) n
          ≡ at (texts (e ∷ es)) n
      by rest true n h = refl
      by rest false zero h = refl
      by rest false (suc n) h = rest n (omega (arith, h))

  put_within : (es : List (Key × V)) (k : Key) (v : V)
      → (length (texts es) ≤ length (texts (insert_entry same_key es k v)))
      × (position_or_len (same_key k) (keys_of es)
      < length (texts (insert_entry same_key es k v)))
  put_within [] k v = (omega arith, omega arith)
  put_within (e ∷ es) k v = by (put_within es k v) (bytes_eq k.now e.0.now)
    where
      by : (length (texts es) ≤ length (texts (insert_entry same_key es k v)))
          × (position_or_len (same_key k) (keys_of es)
          < length (texts (insert_entry same_key es k v))) → (b : Bool) → (length (texts (e ∷ es))
          ≤ length (texts (cond b ((e.0, v) ∷ es) (e ∷ insert_entry same_key es k v))))
          × (cond (not b) (1 + position_or_len (same_key k) (keys_of es)) 0
          < length (texts (cond b ((e.0, v) ∷ es) (e ∷ insert_entry same_key es k v))))
      by r true = (omega arith, omega arith)
      by r false = (omega (arith, r.0), omega (arith, r.1))

  same_texts : (es : List (Key × V)) (k : Key) (v : V) (ns : List ℕ)
      → All (λ n. n < length (texts es)) ns
      → map (at (texts (insert_entry same_key es k v))) ns ≡ map (at (texts es)) ns
  same_texts es k v [] all = refl
  same_texts es k v (n ∷ ns) all =
      let h = keeps_at es k v n (All-head (λ i. i < length (texts es)) n ns all) in
      let t = same_texts es k v ns (All-tail (λ i. i < length (texts es)) n ns all) in
      λ i. h i ∷ t i

  -- a key more, with its index
  pub numbered_push : (es : List (Key × V)) (k : Key) (v : V) (ns : List ℕ) (us : List (List ℕ))
      → AreNumbered (texts es) ns us → (n : ℕ) → n ≡ position_or_len (same_key k) (keys_of es)
      → AreNumbered (texts (insert_entry same_key es k v)) (ns ++ n ∷ []) (us ++ k.now ∷ [])
  numbered_push es k v ns us h n is =
      let new = texts (insert_entry same_key es k v) in
      let w = put_within es k v in
      let first = same_texts es k v ns h.within ∙ h.are in
      let last = ap (at new) is ∙ put_at es k v in
      record {
        within = All-push (λ i. i < length new) ns n
            (all_wider (length (texts es)) (length new) ns w.0 h.within) (omega (arith, is, w.1));
        are = map_push (at new) ns n ∙ (λ i. first i ++ last i ∷ []);
      }

  -- a key that stands at an index of a map
  pub key_there : (es : List (Key × V)) (i : ℕ) (k : Key) (v : V) → slice_get es i ≡ Some (k, v)
      → (s : List ℕ) → k.now ≡ s → (i < length (texts es)) × (at (texts es) i ≡ s)
  key_there [] i k v e s h = absurd (let z : None ≡ Some (k, v) = e in cc)
  key_there (x ∷ es) zero k v e s h =
      let q : x ≡ (k, v) = cc in (omega arith, ap (λ p. p.0.now) q ∙ h)
  key_there (x ∷ es) (suc i) k v e s h =
      let rest = key_there es i k v e s h in (omega (arith, rest.0), rest.1)

-- a key that is there already, with its index
pub numbered_again : (T : List (List ℕ)) (ns : List ℕ) (us : List (List ℕ)) → AreNumbered T ns us
    → (n : ℕ) → n < length T → (u : List ℕ) → at T n ≡ u
    → AreNumbered T (ns ++ n ∷ []) (us ++ u ∷ [])
numbered_again T ns us h n inside u is = record {
  within = All-push (λ i. i < length T) ns n h.within inside;
  are = map_push (at T) ns n ∙ (λ i. h.are i ++ is i ∷ []);
}

-- what is known of texts is found by their indexes
pub by_number : (f : List ℕ → ℕ) (T : List (List ℕ)) (ns : List ℕ) (us : List (List ℕ))
    → AreNumbered T ns us → map (λ n. get_or (map f T) n 0) ns ≡ map f us
by_number f T ns us h = each ns h.within ∙ ap (map f) h.are
  where
    each : (ms : List ℕ) → All (λ n. n < length T) ms
        → map (λ n. get_or (map f T) n 0) ms ≡ map f (map (at T) ms)
    each [] all = refl
    each (m ∷ ms) all =
        let e = get_or-map f T m [] 0 (All-head (λ n. n < length T) m ms all) in
        let t = each ms (All-tail (λ n. n < length T) m ms all) in
        λ i. e i ∷ t i

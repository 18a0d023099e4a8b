-- Looking for a name by halving: of entries whose keys ascend, those from one number on and before
-- another are left, in which the name stands, if anywhere.
use Rattle.std.proofs.Common.{ℕ, List, [], ◌∷◌, ◌++◌, ◌≡◌, ◌+◌, ◌<◌, ◌≤◌, Some, None, true}
use Rattle.std.proofs.Common.{zero, suc, refl, sym, ◌∙◌, ap, subst, map, take, drop, length, get_or}
use Rattle.std.proofs.Common.{arith, ◌^◌}
use Rattle.std.specs.List.{zip}
use Rattle.std.specs.Ordering.{nat_cmp}
use Rattle.std.specs.Cmp.Lexicographic.{slice_cmp}
use Rattle.std.specs.declared.cmp.Ordering.{Ordering}
use Rattle.std.specs.declared.cmp.Ordering.TheVariants.{Less, Equal, Greater}
use Rattle.std.proofs.lemmas.List.{take_all, drop_all, take-append-drop, drop_more, length-map}
use Rattle.std.proofs.lemmas.List.{get_or_default, length-take, get_or-map}
use Rattle.std.proofs.lemmas.Slice.Zip.{length-zip}
use Rattle.resb_format.proofs.Spelled.{units_length, words_length}
use Rattle.resb_format.specs.Content.{Member}
use Rattle.resb_format.specs.Content as at
use Rattle.resb_format.specs.Lookups.{key_in, wide_position}
use Rattle.resb_format.specs.Parts.{Parts}
use Rattle.resb_read.specs.Places.{Place, spot_of}
use Rattle.resb_read.specs.Leaves.{key_from}
use Rattle.resb_read.specs.Sequences.{at_entry, at_spot}
use Rattle.resb_read.specs.declared.cursor.Spot.TheVariants as spot
use Rattle.resb_read.specs.Tables.{is_text, last_named, HasEntry, Ascend}
use Rattle.resb_read.proofs.Ascending.{half_less, half_greater, half_equal}
use Rattle.resb_read.proofs.Ascending as ascending
use Rattle.resb_read.proofs.Lasts.{is_so}
use Rattle.resb_read.proofs.PlainLists.{text_there}

-- where the keys ascend, they do from one number on and before another, and the name stands there,
-- if anywhere
abbrev pub IsLeft : List ℕ → List (Place × Place) → ℕ → ℕ → Type 0
IsLeft name es low high =
    Ascend es → Ascend (drop low (take high es))
    × (last_named name (drop low (take high es)) ≡ last_named name es)

-- the members from one number on and before another: those before a third one, its own, and those
-- behind it
window_split : {A : Type 0} (xs : List A) (low middle high : ℕ) (x : A) → low ≤ middle
    → middle < high → high ≤ length xs → get_or xs middle x ≡ x
    → drop low (take high xs) ≡ drop low (take middle xs) ++ x ∷ drop (suc middle) (take high xs)
window_split [] low middle high x a b c g = absurd (omega (arith, b, c))
window_split (y ∷ ys) low middle zero x a b c g = absurd (omega (arith, b))
window_split (y ∷ ys) zero zero (suc high) x a b c g = ap (λ z. z ∷ take high ys) g
window_split (y ∷ ys) (suc low) zero (suc high) x a b c g = absurd (omega (arith, a))
window_split (y ∷ ys) zero (suc middle) (suc high) x a b c g =
    ap (λ zs. y ∷ zs)
    (window_split ys zero middle high x (omega arith) (omega (arith, b)) (omega (arith, c)) g)
window_split (y ∷ ys) (suc low) (suc middle) (suc high) x a b c g =
    window_split ys low middle high x (omega (arith, a)) (omega (arith, b)) (omega (arith, c)) g

-- how many units or words there are, and how many members are made of them
pub ruleset lengths = (length-map, words_length, units_length)

-- a position of 32 bits, as an entry has it
pub wide_there : (ws : List ℕ) (n : ℕ) → n < length ws
    → 2 ^ 16 + get_or ws n 0 ≡ get_or (map wide_position ws) n 0
wide_there ws n h = sym (get_or-map wide_position ws n 0 0 h)

-- what is made of the pair with a number
pair_there : {C M : Type 0} (f : ℕ × M → C) (ks : List ℕ) (ms : List M) (n k : ℕ) (m : M)
    → n < length ks → k ≡ get_or ks n 0 → get_or ms n m ≡ m
    → get_or (map f (zip ks ms)) n (f (k, m)) ≡ f (k, m)
pair_there f [] ms n k m l a b = refl
pair_there f (x ∷ ks) [] n k m l a b = refl
pair_there f (x ∷ ks) (y ∷ ms) zero k m l a b =
    ap (λ z. f (z, y)) (sym a) ∙ ap (λ z. f (k, z)) b
pair_there f (x ∷ ks) (y ∷ ms) (suc n) k m l a b = pair_there f ks ms n k m (omega (arith, l)) a b

-- at the start all are left
pub all_left : (name : List ℕ) (es : List (Place × Place)) (high : ℕ) → high ≡ length es
    → IsLeft name es 0 high
all_left name es high h a =
    let is : take high es ≡ es = take_all high es (omega (arith, h)) in
    (subst Ascend (sym is) a, ap (last_named name) is)

-- where none is left, no entry has the name
pub none_left : (name : List ℕ) (es : List (Place × Place)) (low high : ℕ) → high ≤ low
    → IsLeft name es low high → Ascend es → None ≡ last_named name es
none_left name es low high h left a =
    let few : length (take high es) ≤ low = omega (arith, length-take high es, h) in
    sym (ap (last_named name) (drop_all low (take high es) few)) ∙ (left a).1

-- the entry with a number, by its key's position and its member
module _ (name : List ℕ) (p : Parts) (ks : List ℕ) (ms : List Member) (middle position : ℕ)
    (inside : middle < length (zip ks ms)) (at_position : position ≡ get_or ks middle 0) where
  abbrev es : List (Place × Place)
  es = map (at_entry p) (zip ks ms)

  of_all : length es ≡ length (zip ks ms)
  of_all = length-map (zip ks ms) (at_entry p)

  there : (m : Member) → get_or ms middle m ≡ m
      → get_or es middle (at_entry p (position, m)) ≡ at_entry p (position, m)
  there m h =
      let both = length-zip ks ms in
      pair_there (at_entry p) ks ms middle position m (omega (arith, inside, both)) at_position h

  -- its key is the name
  pub has_entry : (m : Member) → get_or ms middle m ≡ m
      → is_text name (key_from p (spot.Key position)) ≡ true
      → HasEntry name es (at_spot p (spot_of m))
  has_entry m h is =
      record {
        before = take middle es;
        key = at_spot p (spot.Key position);
        after = drop (middle + 1) es;
        are = sym (take-append-drop middle es)
            ∙ ap (λ r. take middle es ++ r)
            (drop_more es middle (at_entry p (position, m)) (omega (arith, inside, of_all))
            ∙ ap (λ e. e ∷ drop (middle + 1) es) (there m h));
        named = is_so name (at_entry p (position, m)) is;
      }

  module _ (low high : ℕ) (r : Ordering) (from : low ≤ middle) (to : middle < high)
      (within : high ≤ length (zip ks ms)) (left : IsLeft name es low high)
      (ordered : (t : List ℕ) → key_in p position ≡ Some t → r ≡ slice_cmp nat_cmp name t) where
    -- the entry in the middle, by its member
    module _ (m : Member) (h : get_or ms middle m ≡ m) where
      abbrev e : Place × Place
      e = at_entry p (position, m)

      split : drop low (take high es)
          ≡ drop low (take middle es) ++ e ∷ drop (suc middle) (take high es)
      split = window_split es low middle high e from to (omega (arith, within, of_all)) (there m h)

      compared : Ascend es → (t : List ℕ × ℕ) × (key_from p (spot.Key position) ≡ Some t)
          × (slice_cmp nat_cmp name t.0 ≡ r)
      compared a =
          let (t, key) = ascending.key_in (drop low (take middle es)) e
          (drop (suc middle) (take high es)) (subst Ascend split (left a).0) in
          (t, key, sym (ordered t.0 (text_there (key_in p position) t key)))

      front_left : r ≡ Less → IsLeft name es low middle
      front_left is a =
          let (t, key, stands) = compared a in
          half_less name (last_named name es) (drop low (take high es))
          (drop low (take middle es)) (drop (suc middle) (take high es)) e t split (left a) key
          (stands ∙ is)

      back_left : r ≡ Greater → IsLeft name es (suc middle) high
      back_left is a =
          let (t, key, stands) = compared a in
          half_greater name (last_named name es) (drop low (take high es))
          (drop low (take middle es)) (drop (suc middle) (take high es)) e t split (left a) key
          (stands ∙ is)

      pub last_here : r ≡ Equal → Ascend es → Some (at_spot p (spot_of m)) ≡ last_named name es
      last_here is a =
          let (t, key, stands) = compared a in
          half_equal name (last_named name es) (drop low (take high es))
          (drop low (take middle es)) (drop (suc middle) (take high es)) e t split (left a) key
          (stands ∙ is)

    abbrev some : Member
    some = get_or ms middle (at.unit 0)

    some_is : get_or ms middle some ≡ some
    some_is =
        let both = length-zip ks ms in
        get_or_default ms middle some (at.unit 0) (omega (arith, inside, both))

    -- the name is below that entry's key
    pub left_before : r ≡ Less → IsLeft name es low middle
    left_before is = front_left some some_is is

    -- the name is above it
    pub left_behind : r ≡ Greater → IsLeft name es (middle + 1) high
    left_behind is =
        let more : suc middle ≡ middle + 1 = omega arith in
        subst (λ n. IsLeft name es n high) more (back_left some some_is is)

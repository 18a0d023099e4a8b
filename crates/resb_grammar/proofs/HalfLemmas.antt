-- Lists of items that may go on to be a table's.
use Rattle.std.proofs.Common.{◌≡◌, Bool, true, false, List, [], ◌∷◌, refl, sym}
use Rattle.std.specs.Prelude.{◌&&◌}
use Rattle.std.proofs.lemmas.Bool.{false≢true}
use Rattle.resb_grammar.specs.Items.{Term, string_term, group_term, Item, before_comma, is_entry}
use Rattle.resb_grammar.specs.Items.{is_pairs}
use Rattle.resb_grammar.specs.Machine.{is_group, is_key_place}
use Rattle.resb_grammar.specs.Inner.Half.{is_lone_key, key_first, is_half_behind, is_half}

pairs_half : (m k : Term) (f g : Bool) (xs : List Item)
    → (is_entry m k f g && is_pairs xs) ≡ true
    → is_half_behind m f (record { term = k; comma = g } ∷ xs) ≡ true
pairs_half (group_term t ks) (string_term s) false false xs h = h
pairs_half (group_term t ks) (string_term s) false true xs h = absurd (false≢true h)
pairs_half (group_term t ks) (string_term s) true g xs h = absurd (false≢true h)
pairs_half (group_term t ks) (group_term u js) f g xs h = absurd (false≢true h)
pairs_half (string_term s) k f g xs h = absurd (false≢true h)

-- whole pairs may be followed by a key
pub half-pairs : (xs : List Item) → is_pairs xs ≡ true → is_half xs ≡ true
half-pairs [] h = refl
half-pairs (x ∷ []) h = absurd (false≢true h)
half-pairs (x ∷ y ∷ xs) h = pairs_half x.term y.term x.comma y.comma xs h

key_place_half : (m : Term) (f : Bool) (xs : List Item) → is_half_behind m f xs ≡ true
    → is_group m ≡ true → is_pairs (record { term = m; comma = f } ∷ xs) ≡ true
key_place_half (string_term s) f xs h k = absurd (false≢true k)
key_place_half (group_term t ks) true xs h k = absurd (false≢true h)
key_place_half (group_term t ks) false [] h k = absurd (false≢true h)
key_place_half (group_term t ks) false (y ∷ ys) h k = key_pairs y.term y.comma ys h
  where
    key_pairs : (m : Term) (f : Bool) (ys : List Item) → is_lone_key m f ys ≡ true
        → (is_entry (group_term t ks) m false f && is_pairs ys) ≡ true
    key_pairs (string_term s) false ys h = h
    key_pairs (string_term s) true ys h = absurd (false≢true h)
    key_pairs (group_term u js) f ys h = absurd (false≢true h)

-- where a key may stand, the entries are whole
pub pairs-half : (xs : List Item) → is_half xs ≡ true → is_key_place xs ≡ true → is_pairs xs ≡ true
pairs-half [] h k = refl
pairs-half (x ∷ xs) h k = key_place_half x.term x.comma xs h k

-- behind whole pairs is the place of a key
pub key_place-pairs : (xs : List Item) → is_pairs xs ≡ true → is_key_place xs ≡ true
key_place-pairs [] h = refl
key_place-pairs (x ∷ []) h = absurd (false≢true h)
key_place-pairs (x ∷ y ∷ xs) h = first x.term y.term x.comma y.comma h
  where
    first : (m k : Term) (f g : Bool) → (is_entry m k f g && is_pairs xs) ≡ true
        → is_group m ≡ true
    first (group_term t ks) k f g h = refl
    first (string_term s) k f g h = absurd (false≢true h)

key_half : (m : Term) (f : Bool) (xs : List Item) → is_lone_key m f xs ≡ true
    → (is_half_behind m f xs ≡ true) × (is_group m ≡ false)
key_half (string_term s) false xs h = (h, refl)
key_half (string_term s) true xs h = absurd (false≢true h)
key_half (group_term t ks) f xs h = absurd (false≢true h)

-- before a group there is a key
pub half-group : (xs : List Item) → key_first xs ≡ true
    → (is_half xs ≡ true) × (is_key_place xs ≡ false)
half-group [] h = absurd (false≢true h)
half-group (y ∷ ys) h = key_half y.term y.comma ys h

half_key : (m : Term) (f : Bool) (xs : List Item) → is_half_behind m f xs ≡ true
    → is_group m ≡ false
    → is_lone_key m f xs ≡ true
half_key (string_term s) false xs h k = h
half_key (string_term s) true xs h k = absurd (false≢true h)
half_key (group_term t ks) f xs h k = absurd (false≢true (sym k))

-- items that end after a key, without its value, have a key first
pub group-half : (xs : List Item) → is_half xs ≡ true → is_key_place xs ≡ false
    → key_first xs ≡ true
group-half [] h k = absurd (false≢true (sym k))
group-half (y ∷ ys) h k = half_key y.term y.comma ys h k

comma_half : (m : Term) (xs : List Item) → is_half_behind m true xs ≡ true → false ≡ true
comma_half (string_term s) xs h = h
comma_half (group_term t ks) xs h = h

pub no_comma : (m : Term) (xs : List Item) → is_half (before_comma m ∷ xs) ≡ true → ⊥
no_comma m xs h = false≢true (comma_half m xs h)

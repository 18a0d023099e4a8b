-- The parts of a path are its names.
use Rattle.std.proofs.Common.{◌≡◌, ℕ, List, [], ◌∷◌, false, true, refl, sym}
use Rattle.std.proofs.Common.{length, drop, arith, ◌<◌}
use Rattle.std.specs.Prelude.{◌==◌}
use Rattle.std.specs.List.{slice_split, slice_index}
use Rattle.std.proofs.lemmas.Bool.{false≢true, and_parts, ltb-true}
use Rattle.resb_c.specs.Paths.{is_separator, names_in}

-- a text that isn't empty has a first byte
pub has_first : (path : List ℕ) → (length path == 0) ≡ false → 0 < length path
has_first [] h = absurd (false≢true (sym h))
has_first (b ∷ bs) h = omega arith

-- what parts a path is of one byte
pub is_low : (b : ℕ) → is_separator b ≡ true → b < 128
is_low b parts = ltb-true b 128 (and_parts _ _ (and_parts _ _ (and_parts _ _ parts).0).0).0

-- behind a first character that parts the path stand the names
pub parts_are_names : (path rest : List ℕ) (first : ℕ) → (length path == 0) ≡ false
    → first ≡ slice_index path 0 → is_separator (slice_index path 0) ≡ true → rest ≡ drop 1 path
    → slice_split (λ byte. byte == first) rest ≡ names_in path
parts_are_names [] rest first some is parts behind = absurd (false≢true (sym some))
parts_are_names (b ∷ bs) rest first some is parts behind = rw (behind, is, parts) refl

-- a path that begins with another character has its names between slashes
pub slashed_are_names : (path : List ℕ) → (length path == 0) ≡ false
    → is_separator (slice_index path 0) ≡ false
    → slice_split (λ byte. byte == 47) path ≡ names_in path
slashed_are_names [] some other = absurd (false≢true (sym some))
slashed_are_names (b ∷ bs) some other = rw other refl

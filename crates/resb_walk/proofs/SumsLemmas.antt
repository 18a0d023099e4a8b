-- Sums, piece by piece.
use Rattle.std.proofs.Common.{ℕ, List, [], ◌∷◌, ◌++◌, ◌≡◌, ◌+◌, Option, refl, arith}
use Rattle.std.proofs.Common.{Some, None, Bool, true, false, ◌<◌, ◌≤◌, ◌^◌, ◌*◌, nat_lt, ap}
use Rattle.std.proofs.lemmas.Bool.Decides.{nat_tests}
use Rattle.std.proofs.lemmas.List.Sums.{sum_by_push, sum_by-cons}
use Rattle.std.specs.Prelude.{sum_by}
use Rattle.resb_tree.specs.Tree.{string, alias, array, table, binary, integer, int_vector}
use Rattle.resb_walk.specs.Pieces.{Piece, leaf_piece, array_piece, empty_table, filled_table}
use Rattle.resb_walk.specs.Pieces.{key_piece}
use Rattle.resb_walk.specs.Sums.{AddsUp, fitting, table_count_in, entry_count_in, key_bytes_in}
use Rattle.resb_walk.specs.Sums.{text_bytes_in, binary_bytes_in, number_count_in, resource_count_in}
use Rattle.resb_walk.specs.TreeBytes.{piece_bytes, tree_bytes}
use Rattle.resb_walk.specs.declared.sums.Sums.{Sums}

-- a sum with one piece more
pub more_sum : (f : Piece → ℕ) (xs : List Piece) (x : Piece) (n : ℕ) (o : Option ℕ) → f x ≡ n
    → (o ≡ fitting (sum_by f xs + n)) → o ≡ fitting (sum_by f (xs ++ x ∷ []))
more_sum f xs x n o e h =
    let sum : sum_by f xs + n ≡ sum_by f (xs ++ x ∷ []) = omega (arith, e, sum_by_push f xs x) in
    rw sum at h

-- with one that has nothing of it
pub same_sum : (f : Piece → ℕ) (xs : List Piece) (x : Piece) (o : Option ℕ) → f x ≡ 0
    → (o ≡ fitting (sum_by f xs)) → o ≡ fitting (sum_by f (xs ++ x ∷ []))
same_sum f xs x o e h =
    let sum : sum_by f xs ≡ sum_by f (xs ++ x ∷ []) = omega (arith, e, sum_by_push f xs x) in
    rw sum at h

module _ (s : Sums) (xs : List Piece) (h : AddsUp s xs) where
  -- a piece that has nothing to sum
  pub nothing_more : (x : Piece) → table_count_in x ≡ 0 → entry_count_in x ≡ 0 → key_bytes_in x ≡ 0
      → text_bytes_in x ≡ 0 → binary_bytes_in x ≡ 0 → number_count_in x ≡ 0
      → AddsUp s (xs ++ x ∷ [])
  nothing_more x t e k u b n = record {
    tables = same_sum table_count_in xs x _ t h.tables;
    entries = same_sum entry_count_in xs x _ e h.entries;
    key_bytes = same_sum key_bytes_in xs x _ k h.key_bytes;
    text_bytes = same_sum text_bytes_in xs x _ u h.text_bytes;
    binary_bytes = same_sum binary_bytes_in xs x _ b h.binary_bytes;
    numbers = same_sum number_count_in xs x _ n h.numbers;
  }

  -- an array
  pub array_more : AddsUp s (xs ++ array_piece ∷ [])
  array_more = nothing_more array_piece refl refl refl refl refl refl

-- a sum that fits, and one that doesn't
pub fits_some : (n v : ℕ) → Some v ≡ fitting n → (v ≡ n) × (n < 2 ^ 64)
fits_some n v e = cases (nat_lt n (2 ^ 64)) refl
  where
    cases : (b : Bool) → nat_lt n (2 ^ 64) ≡ b → (v ≡ n) × (n < 2 ^ 64)
    cases true h = (let f : Some v ≡ Some n = rw h at e in cc, grind (arith, nat_tests, h))
    cases false h = absurd (let f : Some v ≡ None = rw h at e in cc)

-- a sum that is not kept does not fit 64 bits
pub fits_none : (n : ℕ) → None ≡ fitting n → 2 ^ 64 ≤ n
fits_none n e = cases (nat_lt n (2 ^ 64)) refl
  where
    cases : (b : Bool) → nat_lt n (2 ^ 64) ≡ b → 2 ^ 64 ≤ n
    cases true h = absurd (let f : None ≡ Some n = rw h at e in cc)
    cases false h = grind (arith, nat_tests, h)

-- a sum that fits 64 bits is kept
pub fits : (n v : ℕ) → v ≡ n → v < 2 ^ 64 → Some v ≡ fitting n
fits n v e h =
    let less : nat_lt n (2 ^ 64) ≡ true = grind (arith, nat_tests, e, h) in rw less (ap Some e)

-- a sum that does not fit 64 bits is not kept
pub fits_not : (n : ℕ) → 2 ^ 64 ≤ n → None ≡ fitting n
fits_not n h =
    let more : nat_lt n (2 ^ 64) ≡ false = grind (arith, nat_tests, h) in rw more refl

-- the bytes of one piece, by what it adds to each sum
one_piece : (x : Piece)
    → piece_bytes x ≡ 72 * resource_count_in x + 1024 * table_count_in x + 192 * entry_count_in x
    + 3 * text_bytes_in x + 4 * number_count_in x
one_piece (leaf_piece (string s)) = omega arith
one_piece (leaf_piece (alias s)) = omega arith
one_piece (leaf_piece (array ts)) = omega arith
one_piece (leaf_piece (table es)) = omega arith
one_piece (leaf_piece (binary s)) = omega arith
one_piece (leaf_piece (integer n)) = omega arith
one_piece (leaf_piece (int_vector ns)) = omega arith
one_piece array_piece = omega arith
one_piece empty_table = omega arith
one_piece filled_table = omega arith
one_piece (key_piece k) = omega arith

-- the bytes of a tree, by its sums
pub bytes_by_sums : (xs : List Piece)
    → tree_bytes xs ≡ 72 * sum_by resource_count_in xs + 1024 * sum_by table_count_in xs
    + 192 * sum_by entry_count_in xs + 3 * sum_by text_bytes_in xs + 4 * sum_by number_count_in xs
bytes_by_sums [] = omega arith
bytes_by_sums (x ∷ xs) = omega (
  arith,
  one_piece x,
  bytes_by_sums xs,
  sum_by-cons piece_bytes x xs,
  sum_by-cons resource_count_in x xs,
  sum_by-cons table_count_in x xs,
  sum_by-cons entry_count_in x xs,
  sum_by-cons text_bytes_in x xs,
  sum_by-cons number_count_in x xs,
)

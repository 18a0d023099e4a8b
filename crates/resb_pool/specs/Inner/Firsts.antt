-- Strings told apart by their hashes. S are strings, and each goes by its number there.
--     text_hash t             a number that equal texts share
--     hash_numbered S i       the hash of the string of number i, and i
--     AreHashes S hs          hs are these hashes of all strings, in any order
--     AreFirsts S fs          fs has the number of each string's first copy
use Rattle.std.specs.Prelude.{◌≡◌, ℕ, ◌+◌, ◌*◌, ◌%◌, ◌<◌, ◌≤◌, ◌^◌, List, [], ◌∷◌, length, All}
use Rattle.std.specs.Prelude.{Contains, slice_index}
use Rattle.std.specs.Ordering.{nat_cmp, ordering_then}
use Rattle.std.specs.declared.cmp.Ordering.{Ordering}
use Rattle.resb_pool.specs.Inner.Placing.{indexed_text}
use Rattle.resb_pool.specs.declared.firsts.NumberedHash.{NumberedHash}

-- the hash of some bytes and these behind them, where h is that of the former: one by one, a byte
-- is added to the hash and the sum multiplied by a prime, both modulo 2 ^ 64
unfoldable pub hash_with : ℕ → List ℕ → ℕ
hash_with h [] = h
hash_with h (b ∷ bs) = hash_with ((h + b) % 2 ^ 64 * 0x100_0000_01b3 % 2 ^ 64) bs

-- of a text; which number it is tells nothing but that equal texts have equal ones
abbrev pub text_hash : List ℕ → ℕ
text_hash t = hash_with 0xcbf2_9ce4_8422_2325 t

abbrev pub hash_numbered : List (List ℕ) → ℕ → NumberedHash
hash_numbered S i = record { hash = text_hash (indexed_text S i); number = i }

-- each is the hash of a string, and each string has its hash
pub record AreHashes (S : List (List ℕ)) (hs : List NumberedHash) : Type 0 where
  pub each : All (λ h. (h.number < length S) × (h ≡ hash_numbered S h.number)) hs
  pub all : (i : ℕ) → i < length S → Contains hs (hash_numbered S i)

-- the order of hashes: by themselves, then by their strings' numbers
abbrev pub hash_cmp : NumberedHash → NumberedHash → Ordering
hash_cmp x y = ordering_then (nat_cmp x.hash y.hash) (nat_cmp x.number y.number)

-- f is the number of the first copy of the string of number i: the string of number f is the same,
-- and none before it is
pub record IsFirst (S : List (List ℕ)) (i f : ℕ) : Type 0 where
  pub reaches : f ≤ i
  pub same : indexed_text S f ≡ indexed_text S i
  pub none_before : (j : ℕ) → j < f → indexed_text S j ≡ indexed_text S i → ⊥

-- as many numbers as there are strings, and at each place the first copy's
pub record AreFirsts (S : List (List ℕ)) (fs : List ℕ) : Type 0 where
  pub len : length fs ≡ length S
  pub each : (i : ℕ) → i < length S → IsFirst S i (slice_index fs i)

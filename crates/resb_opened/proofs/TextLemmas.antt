-- Which numbers a vector has.
use Rattle.std.proofs.Common.{◌≡◌, ◌≤◌, ◌<◌, ℕ, zero, suc, List, [], ◌∷◌, None, arith}
use Rattle.std.proofs.Common.{length, slice_get, slice_index}
use Rattle.std.proofs.lemmas.Option.{slice_get_past}
use Rattle.resb_format.proofs.Spelled.{words_length}
use Rattle.resb_format.specs.Bytes.{words_of}
use Rattle.resb_shown.specs.Shown.{AreWords}

-- the words of bytes are below 2 ^ 32
pub words_small : (bytes : List ℕ) → ((k : ℕ) → k < length bytes → slice_index bytes k < 256)
    → AreWords (words_of bytes)
unfolding words_of
words_small (a ∷ b ∷ c ∷ d ∷ bytes) h zero l =
    omega (arith, h 0 (omega arith), h 1 (omega arith), h 2 (omega arith), h 3 (omega arith))
words_small (a ∷ b ∷ c ∷ d ∷ bytes) h (suc k) l =
    words_small bytes (λ j m. h (suc (suc (suc (suc j)))) (omega arith)) k (omega arith)
words_small (a ∷ b ∷ c ∷ []) h k l = absurd (omega (arith, l))
words_small (a ∷ b ∷ []) h k l = absurd (omega (arith, l))
words_small (a ∷ []) h k l = absurd (omega (arith, l))
words_small [] h k l = absurd (omega (arith, l))

-- behind a vector's bytes it has no number
pub no_word : (bytes : List ℕ) (at : ℕ) → length bytes ≤ at
    → slice_get (words_of bytes) at ≡ None
no_word bytes at h = slice_get_past (words_of bytes) at (omega (arith, words_length bytes, h))

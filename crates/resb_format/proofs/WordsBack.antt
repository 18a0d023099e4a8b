-- Words as bytes, and back.
use Rattle.std.proofs.Common.{ℕ, zero, suc, List, [], ◌∷◌, ◌++◌, ◌≡◌, ◌+◌, ◌*◌, ◌≤◌}
use Rattle.std.proofs.Common.{length, take, drop, refl, ap, ◌∙◌, arith}
use Rattle.std.specs.Int.{to_le_bytes, from_le_bytes, w32}
use Rattle.std.specs.List.{flat_map}
use Rattle.std.proofs.lemmas.Nat.{from_le_bytes-to_le_bytes_4}
use Rattle.resb_format.specs.Bytes.{words_of}
use Rattle.resb_format.specs.Laws.{EachFits}
use Rattle.resb_format.proofs.Numbers.{four_back}

-- what stands behind some of them fits too
pub fits_drop : (size : ℕ) (bs : List ℕ) (n : ℕ) → EachFits size bs → EachFits size (drop n bs)
fits_drop size bs zero h = h
fits_drop size [] (suc n) h = h
fits_drop size (b ∷ bs) (suc n) h = fits_drop size bs n h.1

-- the words that written words spell
pub words_back : (ws : List ℕ) → EachFits 32 ws → words_of (flat_map (to_le_bytes w32) ws) ≡ ws
unfolding words_of
words_back [] h = refl
words_back (w ∷ ws) h =
    let e : from_le_bytes w32 (to_le_bytes w32 w) ≡ w = from_le_bytes-to_le_bytes_4 w h.0 in
    ap (λ n. n ∷ words_of (flat_map (to_le_bytes w32) ws)) (omega (arith, e))
    ∙ ap (λ vs. w ∷ vs) (words_back ws h.1)

-- words are written as four bytes each
pub written_length : (ws : List ℕ) → length (flat_map (to_le_bytes w32) ws) ≡ 4 * length ws
written_length [] = omega arith
written_length (w ∷ ws) = let h = written_length ws in omega (arith, h)

-- the bytes that spelled words are written as
pub bytes_back : (bs : List ℕ) (n : ℕ) → EachFits 8 bs → 4 * n ≤ length bs
    → flat_map (to_le_bytes w32) (take n (words_of bs)) ≡ take (4 * n) bs
unfolding words_of
bytes_back bs zero h l = refl
bytes_back [] (suc n) h l = absurd (omega arith)
bytes_back (a ∷ []) (suc n) h l = absurd (omega arith)
bytes_back (a ∷ b ∷ []) (suc n) h l = absurd (omega arith)
bytes_back (a ∷ b ∷ c ∷ []) (suc n) h l = absurd (omega arith)
bytes_back (a ∷ b ∷ c ∷ d ∷ bs) (suc n) h l =
    let e : 4 * suc n ≡ suc (suc (suc (suc (4 * n)))) = omega arith in
    let f : to_le_bytes w32 (a + 256 * b + 65536 * c + 16777216 * d) ≡ a ∷ b ∷ c ∷ d ∷ [] =
    four_back a b c d h.0 h.1.0 h.1.1.0 h.1.1.1.0 in
    let g : flat_map (to_le_bytes w32) (take n (words_of bs)) ≡ take (4 * n) bs =
    bytes_back bs n h.1.1.1.1 (omega arith) in
    rw e (ap (λ xs. xs ++ flat_map (to_le_bytes w32) (take n (words_of bs))) f
    ∙ ap (λ xs. a ∷ b ∷ c ∷ d ∷ xs) g)

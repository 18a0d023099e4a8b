-- Bytes of whole words are those of the words that they spell.
use Rattle.std.proofs.Common.{◌≡◌, ℕ, suc, ◌+◌, ◌*◌, ◌%◌, ◌<◌, List, [], ◌∷◌, ◌++◌, length, get_or}
use Rattle.std.proofs.Common.{refl, sym, ap, ◌∙◌, arith}
use Rattle.std.specs.Int.{to_le_bytes, w32}
use Rattle.resb_format.specs.Bytes.{words_of}
use Rattle.resb_format.proofs.Numbers.{four_back}
use Rattle.resb_layout.specs.Laid.{words}

pub words_whole : (bs : List ℕ) → length bs % 4 ≡ 0 → ((k : ℕ) → get_or bs k 0 < 256)
    → words (words_of bs) ≡ bs
unfolding words_of
words_whole [] e h = refl
words_whole (a ∷ []) e h = absurd (omega arith)
words_whole (a ∷ b ∷ []) e h = absurd (omega arith)
words_whole (a ∷ b ∷ c ∷ []) e h = absurd (omega arith)
words_whole (a ∷ b ∷ c ∷ d ∷ bs) e h =
    let f : to_le_bytes w32 (a + 256 * b + 65536 * c + 16777216 * d) ≡ a ∷ b ∷ c ∷ d ∷ [] =
    four_back a b c d (h 0) (h 1) (h 2) (h 3) in
    let g : words (words_of bs) ≡ bs = words_whole bs (omega arith)
    (λ k. h (suc (suc (suc (suc k))))) in
    ap (λ xs. xs ++ words (words_of bs)) f ∙ ap (λ xs. a ∷ b ∷ c ∷ d ∷ xs) g

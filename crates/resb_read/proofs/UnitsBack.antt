-- Units as bytes, and back.
use Rattle.std.proofs.Common.{ℕ, suc, List, [], ◌∷◌, ◌++◌, ◌≡◌, ◌+◌, ◌*◌, ◌<◌, length, refl}
use Rattle.std.proofs.Common.{ap, ◌∙◌, arith, get_or}
use Rattle.std.specs.Int.{to_le_bytes, w16}
use Rattle.std.specs.List.{flat_map}
use Rattle.resb_format.specs.Bytes.{units_of}
use Rattle.resb_read.proofs.PlainLists.{two_back}

-- the bytes that spelled units are written as
pub units_back : (bs : List ℕ) → length bs ≡ 2 * length (units_of bs)
    → ((k : ℕ) → get_or bs k 0 < 256) → flat_map (to_le_bytes w16) (units_of bs) ≡ bs
unfolding units_of
units_back [] e h = refl
units_back (a ∷ []) e h = absurd (omega arith)
units_back (a ∷ b ∷ bs) e h =
    let f : to_le_bytes w16 (a + 256 * b) ≡ a ∷ b ∷ [] = two_back a b (h 0) (h 1) in
    let g : flat_map (to_le_bytes w16) (units_of bs) ≡ bs = units_back bs (omega arith)
    (λ k. h (suc (suc k))) in
    ap (λ xs. xs ++ flat_map (to_le_bytes w16) (units_of bs)) f ∙ ap (λ xs. a ∷ b ∷ xs) g

-- A text that a pool lends is read there.
use Rattle.std.proofs.Common.{ℕ, List, [], ◌∷◌, ◌≡◌, ◌+◌, ◌<◌, length, inl, inr, Some, ap, ◌∙◌}
use Rattle.std.proofs.Common.{arith}
use Rattle.std.specs.Prelude.{slice_get}
use Rattle.std.specs.Str.{IsUtf8}
use Rattle.resb_format.specs.Strings.{text_at}
use Rattle.resb_format.specs.Units.{size}
use Rattle.resb_pool.proofs.ReadBack.{text_at-zero}
use Rattle.resb_lent.specs.Laws.{LentTextIsRead}
use Rattle.resb_pool.specs.declared.packing.Packing.{Packing}
use Rattle.resb_pool.specs.declared.packing.Packing.TheVariants.{Plain, Compact}
use Rattle.resb_lent.specs.LentTexts.{Holds, StandsAt, IsLentRecord, lent_empty, lent_within}
use Rattle.resb_lent.specs.LentBeside.{LentTextBy, beside_empty, beside_within}
use Rattle.resb_lent.proofs.Standing.{read_back, held_read}

-- unit 0 of a block that begins with 0 is the empty text
pub at_zero : (block : List ℕ) → slice_get block 0 ≡ Some 0 → text_at block 0 ≡ Some []
at_zero [] e = absurd cc
at_zero (x ∷ xs) e =
    let f : x ≡ 0 = cc in
    ap (λ z. text_at (z ∷ xs) 0) f ∙ text_at-zero xs

within : (block s r : List ℕ) (i at : ℕ) → IsUtf8 s → StandsAt block at r → Holds r s
    → i + size s ≡ at + size r → text_at block i ≡ Some s
within block s r i at u h (inl e) n =
    let f = ap size e in
    let same : i ≡ at = omega (arith, n, f) in
    ap (text_at block) same ∙ read_back block at r h ∙ ap Some e
within block s r i at u h (inr held) n = held_read block at r h s i u held n

-- where a text stands that has an index: the empty one at 0, any other in a record
pub data Placed (block : List ℕ) : List ℕ → ℕ → Type 0 where
  placed_empty : slice_get block 0 ≡ Some 0 → Placed block [] 0
  placed_within : {s r : List ℕ} {i at : ℕ} → 0 < length s → IsLentRecord block r at → Holds r s
      → i + size s ≡ at + size r → Placed block s i

pub placed : (way : Packing) (block : List ℕ) (S : List (List ℕ)) (s : List ℕ) (i : ℕ)
    → LentTextBy way block S s i → Placed block s i
placed Plain block S s i (lent_empty z) = placed_empty z
placed Plain block S s i (lent_within some lies e) = placed_within some lies.own lies.holds e
placed Compact block S s i (beside_empty z) = placed_empty z
placed Compact block S s i (beside_within some lies e) =
    placed_within some lies.own lies.holds e

-- it is read there
pub placed_read : (block s : List ℕ) (i : ℕ) → IsUtf8 s → Placed block s i
    → text_at block i ≡ Some s
placed_read block s i u (placed_empty zero) = at_zero block zero
placed_read block s i u (placed_within {r = r} {at = at} full own holds n) =
    within block s r i at u own.stands holds n

pub lent_text_is_read : LentTextIsRead
lent_text_is_read block s i u (lent_empty zero) = at_zero block zero
lent_text_is_read block s i u (lent_within {r = r} {at = at} full lies n) =
    within block s r i at u lies.own.stands lies.holds n

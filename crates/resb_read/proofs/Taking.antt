-- What a reading of bytes that stand at a place has taken, also where they are no whole items.
use Rattle.std.proofs.Common.{ℕ, List, ◌≡◌, ◌+◌, Some, arith}
use Rattle.std.specs.Prelude.{◌-◌}
use Rattle.resb_format.specs.Parts.{Parts}
use Rattle.resb_read.specs.Places.{Place}
use Rattle.resb_read.specs.Leaves.{bytes_from}
use Rattle.resb_read.specs.Spots.{cost_at}
use Rattle.resb_read.specs.declared.cursor.Spot.{Spot}
use Rattle.resb_read.specs.declared.cursor.Spot.TheVariants as spot
use Rattle.resb_read.proofs.PlainLists.{map_count}

bytes_cost : (p : Parts) (s : Spot) (r : List ℕ × ℕ) → bytes_from p s ≡ Some r → r.1 ≡ cost_at s
bytes_cost p (spot.Descriptor w) r e = map_count (λ b. b) _ r 1 e
bytes_cost p (spot.Unit u) r e = map_count _ _ r 1 e
bytes_cost p (spot.Word w) r e = cc
bytes_cost p (spot.Key k) r e = map_count (λ b. b) _ r 0 e

-- one is taken at a descriptor or a unit, and nothing elsewhere
pub bytes_taken : (p : Place) (b : List ℕ) (n left left1 : ℕ)
    → bytes_from p.parts p.at ≡ Some (b, n) → left1 + n ≡ left → left1 ≡ left - cost_at p.at
bytes_taken p b n left left1 e paid =
    let k : n ≡ cost_at p.at = bytes_cost p.parts p.at (b, n) e in omega arith

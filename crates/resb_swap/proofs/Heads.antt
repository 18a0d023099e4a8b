-- What the head of a file says that passes its checks.
use Rattle.std.proofs.Common.{◌≡◌, ℕ, ◌+◌, ◌*◌, ◌≤◌, List, [], ◌∷◌, length, Bool, true, false, None}
use Rattle.std.proofs.Common.{refl, arith, get_or, subst, nat_eq, cond}
use Rattle.resb_format.specs.Bytes.{units_of, unit_in}
use Rattle.resb_head.specs.HeadChecks.{header_refusal}
use Rattle.resb_head.specs.Laws.{IsHeader}
use Rattle.resb_head.proofs.Passing.{header_passes}
use Rattle.resb_swap.specs.Numbers.{header_size, is_big}

-- a header that passes
pub header_from : (bytes : List ℕ) → header_refusal true bytes ≡ None → IsHeader true bytes
header_from bytes e = (header_passes true bytes).0 e

pub header_long : (bytes : List ℕ) → header_refusal true bytes ≡ None → 24 ≤ length bytes
header_long bytes e = (header_from bytes e).long

-- the first unit of some bytes
first_unit : (bytes : List ℕ) → 2 ≤ length bytes
    → get_or (units_of bytes) 0 0 ≡ get_or bytes 0 0 + 256 * get_or bytes 1 0
unfolding units_of
first_unit [] h = absurd (omega (arith, h))
first_unit (a ∷ []) h = absurd (omega (arith, h))
first_unit (a ∷ b ∷ bytes) h = refl

unit_by : (bytes : List ℕ) (big : Bool) → 2 ≤ length bytes
    → unit_in big bytes 0 ≡ cond big (get_or bytes 1 0 + 256 * get_or bytes 0 0) (get_or bytes 0 0
    + 256 * get_or bytes 1 0)
unit_by bytes true h = refl
unit_by bytes false h = first_unit bytes h

-- the header's size is its first unit
pub size_is : (bytes : List ℕ) → 24 ≤ length bytes
    → unit_in (nat_eq (get_or bytes 8 0) 1) bytes 0 ≡ header_size bytes
size_is bytes h = unit_by bytes (is_big bytes) (omega (arith, h))

pub size_enough : (bytes : List ℕ) → header_refusal true bytes ≡ None → 24 ≤ header_size bytes
size_enough bytes e =
    let p = header_from bytes e in subst (λ (n : ℕ). 24 ≤ n) (size_is bytes p.long) p.size

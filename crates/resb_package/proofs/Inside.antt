-- Where the header of a package stands inside a file.
use Rattle.std.proofs.Common.{◌≡◌, ℕ, ◌*◌, ◌/◌, ◌+◌, ◌-◌, ◌<◌, ◌≤◌, List, length, drop, None}
use Rattle.std.proofs.Common.{arith, refl}
use Rattle.std.proofs.Common.{length-drop}
use Rattle.std.specs.Prelude.{nat_le, get_or}
use Rattle.std.proofs.lemmas.Bool.{lt-leb}
use Rattle.resb_package.specs.Checks.{HasHead, head_checks}

-- none stands where fewer than 24 bytes are left
pub no_head_behind : (bytes : List ℕ) (k : ℕ) → length bytes / 16 ≤ k → HasHead bytes (16 * k) → ⊥
unfolding head_checks
no_head_behind bytes k h stands =
    let few : length (drop (16 * k) bytes) < 24 = omega (arith, length-drop (16 * k) bytes, h) in
    let short = lt-leb 24 (length (drop (16 * k) bytes)) few in
    absurd (cc)

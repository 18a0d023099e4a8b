-- What 16 bits tell of positions and indexes: as much as there is.
use Rattle.std.proofs.Common.{ℕ, ◌-◌, List, [], ◌∷◌, Option, Some, None, length, map}
use Rattle.std.proofs.Common.{◌≡◌, refl, ap}
use Rattle.std.proofs.lemmas.List.{length-map}
use Rattle.resb_layout.specs.Laid.{Lends, near_by, short_by, nears_by}
use Rattle.resb_layout.specs.Laid.{offsets_by}

pub offsets_many : (lent : Option Lends) (ws : List ℕ) → length (offsets_by lent ws) ≡ length ws
offsets_many lent ws = length-map ws (λ w. short_by lent (w - 0x6000_0000))

pub nears_many : (lent : Option Lends) (ps : List ℕ) → length (nears_by lent ps) ≡ length ps
nears_many None ps = refl
nears_many (Some l) ps = length-map ps (near_by (Some l))

-- each by itself
pub offsets_are : (lent : Option Lends) (ws : List ℕ)
    → offsets_by lent ws ≡ map (λ w. short_by lent (w - 0x6000_0000)) ws
offsets_are lent ws = refl

each_itself : (ps : List ℕ) → ps ≡ map (λ p. p) ps
each_itself [] = refl
each_itself (p ∷ ps) = ap (λ qs. p ∷ qs) (each_itself ps)

pub nears_are : (lent : Option Lends) (ps : List ℕ) → nears_by lent ps ≡ map (near_by lent) ps
nears_are None ps = each_itself ps
nears_are (Some l) ps = refl

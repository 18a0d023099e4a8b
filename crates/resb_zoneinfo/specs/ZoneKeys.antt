-- The keys of a zone's table in the file of zones.
use Rattle.std.specs.Prelude.{ℕ, List, [], ◌∷◌, codes}

-- when the offset changed, before 32 bits, within and behind them; to which type; the types'
-- offsets; and the rule of the final years, its offset, and the first of these years
abbrev pub zone_keys : List (List ℕ)
zone_keys =
    codes "transPre32" ∷ codes "trans" ∷ codes "transPost32" ∷ codes "typeMap"
    ∷ codes "typeOffsets" ∷ codes "finalRule" ∷ codes "finalRaw" ∷ codes "finalYear" ∷ []

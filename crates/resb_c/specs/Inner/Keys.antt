-- Why no key of an entry is had.
use Rattle.std.specs.Prelude.{ℕ, List}
use Rattle.resb_format.specs.Content.{Member}
use Rattle.resb_format.specs.Parts.{Parts}
use Rattle.resb_c.specs.AtPlaces.{HasBadKey, LacksEntry}
use Rattle.resb_c.specs.declared.fault.Fault.{Fault}
use Rattle.resb_c.specs.declared.fault.Fault.TheVariants.{NotFound, Reading}

-- there is no such entry, or its key can't be read
abbrev pub HasNoKeyIn : Parts → ℕ → Fault → List (ℕ × Member) → Type 0
HasNoKeyIn p number NotFound es = LacksEntry number es
HasNoKeyIn p number (Reading e) es = HasBadKey p number e es
HasNoKeyIn p number _ es = ⊥

-- Places in a file, as contracts see them.
use Rattle.resb_format.specs.Parts.{Parts, parts_in}
use Rattle.resb_format.specs.Content.{Member, word, unit}
use Rattle.resb_read.specs.declared.cursor.Spot.{Spot}
use Rattle.resb_read.specs.declared.cursor.Spot.TheVariants as spot
use Rattle.resb_read.specs.declared.cursor.Cursor.{Cursor}

-- the parts of a file, and a spot in them: a descriptor, a string's unit, a vector's word, or a
-- key's position
pub record Place : Type 0 where
  pub parts : Parts
  pub at : Spot

-- where a cursor stands, in which parts of a file
abbrev pub place_of : Cursor → Place
place_of c = record { parts = parts_in c.file; at = c.at }

-- where a member of a collection stands
abbrev pub spot_of : Member → Spot
spot_of (word w) = spot.Descriptor w
spot_of (unit u) = spot.Unit u

-- What the caller in C is told of a time zone, out of a file of zones: by what reads the records of
-- a file, and by what refuses a file that has none, as `ReadsInfo` and `RefusesInfo` say it.
--     HasNoInfo refuses file fault            why a file has no records
--     TellsOffset reads refuses file name moment r    what asking for an offset answers
use Rattle.std.specs.Prelude.{ℕ, ℤ, List, None, Result, Ok, Err, IsUtf8}
use Rattle.resb_format.specs.declared.error.ReadingError.{ReadingError}
use Rattle.resb_zoneinfo.specs.Info.{HasNoZone, IsZoneOf}
use Rattle.resb_zoneinfo.specs.Offsets.{IsOffset}
use Rattle.resb_zoneinfo.specs.declared.checking.ZoneError.{ZoneError}
use Rattle.resb_zoneinfo.specs.declared.data.ZoneInfo.{ZoneInfo}
use Rattle.resb_zoneinfo.specs.declared.zone.Zone.{Zone}
use Rattle.resb_program.specs.Files.{LacksPool}
use Rattle.resb_c.specs.Calls.{IsNotUtf8}
use Rattle.resb_c.specs.declared.fault.Fault.{Fault}
use Rattle.resb_c.specs.declared.fault.Fault.TheVariants.{NotUtf8, Reading, UsesPool}
use Rattle.resb_c.specs.declared.fault.Fault.TheVariants as the

-- the file uses a pool bundle; or it uses none, and is refused so
abbrev pub HasNoInfo : (List ℕ → ReadingError → Type 0) → List ℕ → Fault → Type 0
HasNoInfo refuses file UsesPool = LacksPool None file
HasNoInfo refuses file (Reading e) = (LacksPool None file → ⊥) × refuses file e
HasNoInfo refuses file _ = ⊥

-- in the records of the file the zone of this name has this offset at the moment
abbrev pub HasOffset : (List ℕ → ZoneInfo → Type 0) → List ℕ → List ℕ → ℤ → ℤ → Type 0
HasOffset reads file name moment offset =
    (info : ZoneInfo) × (zone : Zone) × reads file info × IsZoneOf info name zone
    × IsOffset zone moment offset

-- the records of the file have no zone of this name, for this reason
abbrev pub LacksZone : (List ℕ → ZoneInfo → Type 0) → List ℕ → List ℕ → ZoneError → Type 0
LacksZone reads file name e = (info : ZoneInfo) × reads file info × HasNoZone info name e

-- the offset of the zone of this name at the moment; that the name isn't UTF-8, which is told
-- first; that there is no such zone, or why it has no offsets; or why the file has no records
unfoldable pub TellsOffset : (List ℕ → ZoneInfo → Type 0) → (List ℕ → ReadingError → Type 0)
    → List ℕ → List ℕ → ℤ → Result ℤ Fault → Type 0
TellsOffset reads refuses file name moment (Ok x) =
    IsUtf8 name × HasOffset reads file name moment x
TellsOffset reads refuses file name moment (Err (NotUtf8 n)) = IsNotUtf8 name n
TellsOffset reads refuses file name moment (Err (the.Zone e)) =
    IsUtf8 name × LacksZone reads file name e
TellsOffset reads refuses file name moment (Err fault) =
    IsUtf8 name × HasNoInfo refuses file fault

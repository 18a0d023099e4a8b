-- Which zone a name stands for.
use Rattle.std.specs.Prelude.{ℕ, ◌≡◌, ◌⊎◌, List}
use Rattle.resb_zoneinfo.specs.Checking.{IsChecked, IsZoneFault}
use Rattle.resb_zoneinfo.specs.Leading.{LeadsTo, LeadsNowhere}
use Rattle.resb_zoneinfo.specs.Names.{IsNumberOf, HasNoName}
use Rattle.resb_zoneinfo.specs.declared.checking.ZoneError.{ZoneError}
use Rattle.resb_zoneinfo.specs.declared.checking.ZoneError.TheVariants as error
use Rattle.resb_zoneinfo.specs.declared.data.ZoneData.{ZoneData}
use Rattle.resb_zoneinfo.specs.declared.data.ZoneInfo.{ZoneInfo}
use Rattle.resb_zoneinfo.specs.declared.linked.Linked.{Linked}
use Rattle.resb_zoneinfo.specs.declared.zone.Zone.{Zone}

-- a member of a list leads to a table, and this is its record
abbrev pub LeadsToBy : {T D : Type 0} → List (Linked T) → (T → D) → ℕ → D → Type 0
LeadsToBy {T} members record_of k d = (t : T) × LeadsTo members k t × (d ≡ record_of t)

-- the member of the file's zones with this number leads to this record
abbrev pub LeadsToData : ZoneInfo → ℕ → ZoneData → Type 0
LeadsToData file k d = LeadsToBy file.zones.items (λ t. t.0) k d

-- the record that the name's number leads to is checked, and this is its zone
pub record IsZoneOf (file : ZoneInfo) (name : List ℕ) (z : Zone) : Type 0 where
  pub number : ℕ
  pub named : IsNumberOf file.names.items name number
  pub fields : ZoneData
  pub leads : LeadsToData file number fields
  pub is : IsChecked fields file z

-- the name's number leads nowhere
pub record IsAstray (file : ZoneInfo) (name : List ℕ) (e : ZoneError) : Type 0 where
  pub number : ℕ
  pub named : IsNumberOf file.names.items name number
  pub nowhere : LeadsNowhere file.zones.items number e

-- the record that the name's number leads to has a fault
pub record IsFaulty (file : ZoneInfo) (name : List ℕ) (e : ZoneError) : Type 0 where
  pub number : ℕ
  pub named : IsNumberOf file.names.items name number
  pub fields : ZoneData
  pub leads : LeadsToData file number fields
  pub fault : IsZoneFault fields file e

-- no zone has this name
abbrev pub IsUnnamed : ZoneInfo → List ℕ → ZoneError → Type 0
IsUnnamed file name error.NoZone = HasNoName file.names.items name
IsUnnamed file name _ = ⊥

-- no zone has this name, or its number leads nowhere, or its record has a fault
abbrev pub HasNoZone : ZoneInfo → List ℕ → ZoneError → Type 0
HasNoZone file name e = IsUnnamed file name e ⊎ IsAstray file name e ⊎ IsFaulty file name e

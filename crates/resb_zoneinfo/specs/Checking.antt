-- When a zone's record is one whose offsets can be looked up, and what else is wrong with it.
use Rattle.std.specs.Prelude.{ℕ, ℤ, pos, ◌≡◌, ◌<◌, ◌≤◌, ◌/◌, ◌<ℤ◌, ◌⊎◌, List, Option, Some, None}
use Rattle.std.specs.Prelude.{length, option_map, slice_index}
use Rattle.std.specs.Ordering.{nat_cmp}
use Rattle.std.specs.Cmp.Lexicographic.{slice_cmp}
use Rattle.std.specs.BTreeMap.{get_by}
use Rattle.std.specs.String.{string_bytes}
use Rattle.resb.specs.Views.{number_words, pair_words}
use Rattle.resb.specs.declared.binary.helpers.I32View.{I32View}
use Rattle.resb_zoneinfo.specs.LongMoments.{words_or_none}
use Rattle.resb_zoneinfo.specs.Transitions.{HasTransitions}
use Rattle.resb_zoneinfo.specs.Rules.{SaysRule, rule_fault}
use Rattle.resb_zoneinfo.specs.declared.data.ZoneData.{ZoneData}
use Rattle.resb_zoneinfo.specs.declared.zone.Zone.{Zone}
use Rattle.resb_zoneinfo.specs.declared.zone.FinalYears.{FinalYears}
use Rattle.resb_zoneinfo.specs.declared.rule.FinalRule.{FinalRule}
use Rattle.resb_zoneinfo.specs.declared.numbers.RuleError.{RuleError}
use Rattle.resb_zoneinfo.specs.declared.checking.ZoneError.{ZoneError}
use Rattle.resb_zoneinfo.specs.declared.checking.ZoneError.TheVariants as error
use Rattle.resb_zoneinfo.specs.declared.data.ZoneInfo.{ZoneInfo}

-- the types of a zone's transitions, none where they are left out
abbrev pub types_of : ZoneData → List ℕ
types_of d = words_or_none (option_map (λ s. s.now) d.types)

-- the numbers of the rule of a name
abbrev pub rule_named : List ℕ → ZoneInfo → Option I32View
rule_named name file = get_by (λ k. slice_cmp nat_cmp name k.now) file.rules

-- the file's numbers of this name say the rule
pub record SaysNamed (file : ZoneInfo) (name : List ℕ) (r : FinalRule) : Type 0 where
  pub numbers : I32View
  pub found : rule_named name file ≡ Some numbers
  pub says : SaysRule (number_words numbers) r

-- this is the first fault of the file's numbers of this name
pub record HasRuleFault (file : ZoneInfo) (name : List ℕ) (e : RuleError) : Type 0 where
  pub numbers : I32View
  pub found : rule_named name file ≡ Some numbers
  pub fault : rule_fault (number_words numbers) ≡ Some e

-- there is no rule of this name, or its numbers have a fault
abbrev pub IsNamedFault : ZoneInfo → List ℕ → ZoneError → Type 0
IsNamedFault file name error.NoRule = rule_named name file ≡ None
IsNamedFault file name (error.Rule e) = HasRuleFault file name e
IsNamedFault file name _ = ⊥

-- the final years are those of the record's year, offset and rule, which the file's numbers say
pub record IsFinalOf (d : ZoneData) (file : ZoneInfo) (f : FinalYears) : Type 0 where
  pub name : List ℕ
  pub named : option_map string_bytes d.final_rule ≡ Some name
  pub raw_is : d.final_raw ≡ Some f.raw
  pub year_is : d.final_year ≡ Some (pos f.year)
  pub says : SaysNamed file name f.rule

-- there is no final rule and there are no final years, or these are the record's
abbrev pub IsLast : ZoneData → ZoneInfo → Option FinalYears → Type 0
IsLast d file (Some f) = IsFinalOf d file f
IsLast d file None = option_map string_bytes d.final_rule ≡ None

-- the zone has the record's transitions, types and offsets, and its final years
pub record IsChecked (d : ZoneData) (file : ZoneInfo) (z : Zone) : Type 0 where
  pub transitions_are : z.transitions ≡ d.transitions
  pub types_are : z.types.now ≡ types_of d
  pub offsets_are : z.offsets ≡ d.offsets
  pub last_is : IsLast d file z.last

-- there is an offset for the final years
abbrev pub HasFinalRaw : ZoneData → Type 0
HasFinalRaw d = (raw : ℤ) × (d.final_raw ≡ Some raw)

-- there is, and they begin in 1970 or later
abbrev pub HasFinalYears : ZoneData → Type 0
HasFinalYears d =
    HasFinalRaw d × ((y : ℕ) × (d.final_year ≡ Some (pos y)) × (1970 ≤ y))

-- the final years lack an offset; else they lack a year; else they begin before 1970
abbrev pub IsYearFault : ZoneData → ZoneError → Type 0
IsYearFault d error.NoFinalRaw = d.final_raw ≡ None
IsYearFault d error.NoFinalYear = HasFinalRaw d × (d.final_year ≡ None)
IsYearFault d error.FinalYear =
    HasFinalRaw d × ((y : ℤ) × (d.final_year ≡ Some y) × (y <ℤ pos 1970))
IsYearFault d _ = ⊥

-- the record has a final rule, and its final years a fault, or else that rule
pub record IsFinalFault (d : ZoneData) (file : ZoneInfo) (e : ZoneError) : Type 0 where
  pub name : List ℕ
  pub named : option_map string_bytes d.final_rule ≡ Some name
  pub fault : IsYearFault d e ⊎ (HasFinalYears d × IsNamedFault file name e)

-- a transition's type is beyond the offsets
abbrev pub HasTypeBeyond : ZoneData → Type 0
HasTypeBeyond d =
    (k : ℕ) × (k < length (types_of d))
    × (length (pair_words d.offsets) / 2 ≤ slice_index (types_of d) k)

-- there are as many transitions as types, and an offset
abbrev pub IsCounted : ZoneData → Type 0
IsCounted d =
    HasTransitions d.transitions (length (types_of d)) × (0 < length (pair_words d.offsets) / 2)

-- each type is among the offsets
abbrev pub AreTypes : ZoneData → Type 0
AreTypes d =
    (k : ℕ) → k < length (types_of d)
    → slice_index (types_of d) k < length (pair_words d.offsets) / 2

-- there are not as many transitions as types; else there is no offset; else a type is beyond the
-- offsets
abbrev pub IsTypeFault : ZoneData → ZoneError → Type 0
IsTypeFault d error.Count = HasTransitions d.transitions (length (types_of d)) → ⊥
IsTypeFault d error.NoOffset =
    HasTransitions d.transitions (length (types_of d))
    × (length (pair_words d.offsets) / 2 ≡ 0)
IsTypeFault d error.Type = IsCounted d × HasTypeBeyond d
IsTypeFault d _ = ⊥

-- a zone's types have a fault, or else its final years
abbrev pub IsZoneFault : ZoneData → ZoneInfo → ZoneError → Type 0
IsZoneFault d file e =
    IsTypeFault d e ⊎ (IsCounted d × AreTypes d × IsFinalFault d file e)

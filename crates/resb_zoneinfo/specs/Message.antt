-- What is printed where a file has no offsets of a zone.
--     rule_message e          what a fault of a rule prints as
--     zone_message e          what a fault of a zone prints as
use Rattle.std.specs.Prelude.{ℕ, List, ◌++◌, codes}
use Rattle.resb_zoneinfo.specs.declared.checking.ZoneError.{ZoneError}
use Rattle.resb_zoneinfo.specs.declared.checking.ZoneError.TheVariants as error
use Rattle.resb_zoneinfo.specs.declared.numbers.RuleError.{RuleError}
use Rattle.resb_zoneinfo.specs.declared.numbers.RuleError.TheVariants as rule

-- what is wrong with the numbers of a rule
abbrev pub rule_message : RuleError → List ℕ
rule_message rule.Length = codes "it has not eleven numbers"
rule_message rule.Month = codes "a month is not 0 to 11"
rule_message rule.Weekday = codes "a weekday is not -7 to 7"
rule_message rule.Day = codes "its month has no such day"
rule_message rule.Time = codes "a time is not within a day"
rule_message rule.Clock = codes "a clock is not 0, 1 or 2"
rule_message rule.Saving = codes "it saves nothing"

-- what is wrong with a zone, or that there is none
abbrev pub zone_message : ZoneError → List ℕ
zone_message error.NoZone = codes "no zone has this name"
zone_message error.Link = codes "the zone's link leads to no zone"
zone_message error.Count = codes "the zone has not as many transitions as types"
zone_message error.NoOffset = codes "the zone has no offset"
zone_message error.Type = codes "a transition of the zone has no offset"
zone_message error.NoRule = codes "the zone's final rule is none of the file"
zone_message error.NoFinalRaw = codes "the zone's final rule has no offset"
zone_message error.NoFinalYear = codes "the zone's final rule has no year"
zone_message error.FinalYear = codes "the zone's final year is before 1970"
zone_message (error.Rule e) = codes "the zone's final rule is none: " ++ rule_message e

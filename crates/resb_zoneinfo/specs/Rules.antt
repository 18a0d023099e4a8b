-- The rule of a zone's final years: when in a year something is saved, and what eleven numbers of a
-- file say of it. Clocks show seconds since the begin of the year 0.
use Rattle.std.specs.Prelude.{ℕ, ℤ, pos, ◌≡◌, ◌+◌, ◌/◌, ◌+ℤ◌, Bool, ◌&&◌, ◌||◌, not}
use Rattle.std.specs.Prelude.{if◌then◌else◌, nat_le, nat_eq, length, List, Option, Some, None}
use Rattle.std.specs.Option.{option_or}
use Rattle.std.specs.Int.Signed.{lt_z}
use Rattle.resb_zoneinfo.specs.Civil.{IsInYear}
use Rattle.resb_zoneinfo.specs.Edges.{IsTimeIn, IsStandard, clock_reading}
use Rattle.resb_zoneinfo.specs.Edges.{signed_word, SaysEdgeAt, edge_fault_at}
use Rattle.resb_zoneinfo.specs.declared.edge.Edge.{Edge}
use Rattle.resb_zoneinfo.specs.declared.rule.FinalRule.{FinalRule}
use Rattle.resb_zoneinfo.specs.declared.numbers.RuleError.{RuleError}
use Rattle.resb_zoneinfo.specs.declared.numbers.RuleError.TheVariants as error

-- seconds from the begin of the year 0 to that of 1970
abbrev pub before_1970 : ℕ
before_1970 = 62167219200

-- a change has come: its clock shows its time or more
abbrev pub has_come : Edge → ℕ → ℕ → ℕ → ℕ → Bool
has_come e time standard universal ahead =
    nat_le time (clock_reading e.clock standard universal ahead)

-- between two changes of one year, or outside of them where the year ends with saving
abbrev pub saved_between : Bool → Bool → Bool → Bool
saved_between ordered begun ended = if ordered then begun && not ended else begun || not ended

-- in a year it is saved from the start on and until the end; where the month of the end is before
-- that of the start, from the year's begin until the end, and from the start on. Before the start
-- the clock on the wall shows standard time, and before the end what is saved too
pub record IsSaving (r : FinalRule) (year standard universal : ℕ) (saving : Bool) : Type 0 where
  pub start : ℕ
  pub starts : IsTimeIn r.start year start
  pub end : ℕ
  pub ends : IsTimeIn r.end year end
  pub is : saving ≡ saved_between (nat_le r.start.month r.end.month)
      (has_come r.start start standard universal 0)
      (has_come r.end end standard universal r.saving)

-- at a moment, in seconds since 1970, the offset is the raw one, and what is saved in the year that
-- the clock of standard time shows
pub record IsFinalOffset (r : FinalRule) (raw : ℤ) (moment : ℕ) (offset : ℤ) : Type 0 where
  pub standard : ℕ
  pub shown : IsStandard (moment + before_1970) raw standard
  pub year : ℕ
  pub in_year : IsInYear (standard / 86400) year
  pub saving : Bool
  pub saves : IsSaving r year standard (moment + before_1970) saving
  pub is : offset ≡ raw +ℤ pos (if saving then r.saving else 0)

-- eleven numbers say a rule: five its start, five its end, and the last what is saved
pub record SaysRule (v : List ℕ) (r : FinalRule) : Type 0 where
  pub eleven : length v ≡ 11
  pub starts : SaysEdgeAt v 0 r.start
  pub ends : SaysEdgeAt v 5 r.end
  pub saved : signed_word v 10 ≡ pos r.saving

-- what is saved is nothing, or less
abbrev pub saving_fault : ℤ → Option RuleError
saving_fault saved = if lt_z (pos 0) saved then None else Some error.Saving

-- the first fault of numbers that are to say a rule: they aren't eleven; or else one of the start;
-- or else one of the end; or else nothing is saved
abbrev pub rule_fault : List ℕ → Option RuleError
rule_fault v =
    if nat_eq (length v) 11
    then option_or (edge_fault_at v 0)
    (option_or (edge_fault_at v 5) (saving_fault (signed_word v 10)))
    else Some error.Length

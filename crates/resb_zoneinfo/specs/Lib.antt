-- The words of the contracts: civil dates, rules for when clocks change, a zone's moments and
-- offsets, links between zones, faults of records and what they print, and the whole file.
pub mod Civil
pub mod RuleDays
pub mod Numbers
pub mod Edges
pub mod Rules
pub mod LongMoments
pub mod Transitions
pub mod Offsets
pub mod Linked
pub mod LinkedLaws
pub mod Checking
pub mod Message
pub mod Names
pub mod Leading
pub mod Info
pub mod Reading
pub mod ZoneKeys
pub use Rattle.resb.specs.Leaves
pub use Rattle.resb.specs.Spots
pub use Rattle.resb.specs.Places
pub use Rattle.resb.specs.Views

-- The words of the contracts of `zones`: what a zone and a table of zones are read from, and a
-- zone's offset at a moment.
pub mod Zones
pub mod Offsets
pub mod ZoneLaws
pub mod Inner
pub use Rattle.resb.specs.Error
pub use Rattle.resb.specs.Leaves
pub use Rattle.resb.specs.Spots
pub use Rattle.resb.specs.Places
pub use Rattle.resb.specs.Reading
pub use Rattle.resb.specs.Sequences
pub use Rattle.resb.specs.Views

-- The words of the contracts: what the head of a file of any version says, what a pool bundle
-- lends, and what a file beside one is and denotes.
pub use Rattle.resb_format.specs.Parts
pub use Rattle.resb_format.specs.Denotes
pub use Rattle.resb_format.specs.Error
pub use Rattle.resb_head.specs.File
pub use Rattle.resb_head.specs.HeadChecks
pub mod Fields
pub mod Pool
pub mod Checks
pub mod Checksum
pub mod FileWith
pub mod Older
pub mod Laws
pub mod Heads
pub mod Inner

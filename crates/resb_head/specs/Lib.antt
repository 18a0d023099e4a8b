-- The words of the contracts: what a file is, where the values of a head stand, its checks in their
-- order, and what reading it answers. `Inner` has words of private functions.
pub use Rattle.resb_tree.specs.Tree
pub use Rattle.resb_format.specs.Bytes
pub use Rattle.resb_format.specs.Parts
pub use Rattle.resb_format.specs.Denotes
pub use Rattle.resb_format.specs.Error
-- what is written is read back: `Survives`
pub use Rattle.resb_format.specs.Laws as FormatLaws
pub mod File
pub mod Codes
pub mod CodeReading
pub mod HeadChecks
pub mod Head
pub mod HeadReading
pub mod Laws
pub mod Inner

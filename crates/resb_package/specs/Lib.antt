-- The words of the contracts: where things stand in a package, what a package is, the checks that a
-- reading makes, and what is printed for each that fails.
pub use Rattle.resb_format.specs.Bytes
pub use Rattle.resb_format.specs.Strings
pub mod Table
pub mod Package
pub mod Checks
pub mod Message
pub mod Items
pub mod Laws

-- The words of the contracts: why strings aren't planned, which get a record, in which record each
-- lies, and the pool.
pub use Rattle.resb_format.specs.Bytes
pub use Rattle.resb_format.specs.Units
pub use Rattle.resb_format.specs.Strings
pub mod Refusal
pub mod Records
pub mod Order
pub mod Container
pub mod Pool
pub mod Plan
pub mod Ended
pub mod Shared
pub mod Holders
pub mod Laws
pub mod Inner

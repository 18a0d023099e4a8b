-- The words of the contracts: what stands in a file that was counted once.
pub mod Standing
pub mod Ordered
pub mod Handles
pub mod Paths
pub mod Opening
pub mod Ahead
pub mod FieldLaws
pub mod Shown
pub mod Inner

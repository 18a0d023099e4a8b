-- The words of the contracts: the text of a bundle, what keeps it from having one, and the laws.
pub mod Spelling
pub mod Printed
pub mod Sizes
pub mod Held
pub mod Quotes
pub mod Paths
pub mod Standing
pub mod Laws
pub mod Message
pub mod Inner

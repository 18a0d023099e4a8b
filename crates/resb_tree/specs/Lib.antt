-- The words of the contracts: trees, what a resource stands for and whether it borrows, bundles,
-- tables as finite maps, the keys and aliases of a tree, 28-bit integers, what a tree weighs, and
-- the laws of these. `Inner` has words of private functions.
pub mod Tree
pub mod Equality
pub mod View
pub mod Maps
pub mod Keys
pub mod Aliases
pub mod LayingOrder
pub mod Bundle
pub mod Borrowing
pub mod Int28
pub mod Weights
pub mod Laws
pub mod Inner

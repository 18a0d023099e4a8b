-- The words of the contracts: what a text of rules says, what rules leave of a tree, what is
-- printed of an error, and laws. `Inner` has words of private functions.
pub mod Lines
pub mod Filtered
pub mod Collated
pub mod View
pub mod Messages
pub mod Laws
pub mod Inner

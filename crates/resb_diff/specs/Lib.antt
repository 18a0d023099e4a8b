-- The words of the contracts: what differs between two trees, and how it is listed.
-- `Inner` has words of private functions.
pub mod Differences
pub mod Paths
pub mod View
pub mod Laws
pub mod Applied
pub mod Inner

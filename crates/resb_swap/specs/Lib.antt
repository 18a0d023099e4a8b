-- The words of the contracts: the numbers of a file in either order of bytes, the roles of its
-- words, what a file in the other order is, why there is none, and what holds in either order.
-- `Inner` has words of private functions.
pub mod Numbers
pub mod Collation
pub mod Bodies
pub mod Roles
pub mod Swapped
pub mod Faults
pub mod Packages
pub mod PackageFaults
pub mod Orders
pub mod Message
pub mod Laws
pub mod Inner

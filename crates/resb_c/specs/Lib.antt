-- The words of the contracts for C: what is answered, why a call fails, and what the caller gets.
pub mod Faults
pub mod Options
pub mod Pools
pub mod Calls
pub mod Compiling
pub mod Swapping
pub mod Warned
pub mod Dumping
pub mod Measures
pub mod AtPlaces
pub mod Paths
pub mod Zones
pub mod Opened
pub mod Opening
pub mod Shown
pub mod Handed
pub mod Inner

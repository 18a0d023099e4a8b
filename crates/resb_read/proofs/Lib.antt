-- For crates above: those that are `pub`.
mod Ascending
mod Backwards
mod Halving
mod Lasts
pub mod InsideTrees
mod Naming
mod Orders
mod Trees
pub mod Rooted
mod Each
mod PlainLists
pub mod UnitsBack
mod Entering
mod Failing
mod Viewing
mod Taking
pub mod OneRefusal
pub mod Limited
mod OneValue
mod Measures
pub mod WithPool
pub mod FilesLemmas

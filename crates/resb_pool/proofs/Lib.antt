-- For crates above: those that are `pub`.
pub mod TextLists
pub mod Zeros
pub mod Utf16
pub mod TextLoops
mod Distinct
pub mod Sizes
mod Interning
mod Sums
pub mod ReadBack
pub mod PlacingLemmas
mod Sharing
pub mod InOrder
mod PlanLemmas
mod Turns
mod Laying
mod Planned
mod Endings
mod Ranking
pub mod IsRead
pub mod OnePool
pub mod OneShared
pub mod Least
pub mod SuffixOrder
pub mod Cut
pub mod EndLetters
mod UnitsOrder
mod Utf8Order
mod StartOrder
mod Starts
mod Ends
mod Digits
mod EndKeys
mod KeyDigits
mod EndDigits
mod SameDigits
mod FewDigits
mod FrontBytes
mod SuffixRuns
mod TopRuns
mod Holding
mod Numbers
mod Lists
mod HashRuns
mod FirstTurns
mod ListingLemmas

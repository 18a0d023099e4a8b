-- For crates above: those that are `pub`.
mod DenotesLemmas
mod Entries
mod Lift
pub mod Meeting
mod Waits
mod Fillings
mod Starts
mod Chain
mod RoundsLemmas
mod Placed
pub mod Lists
mod Made
mod Surrogates
mod Keys
mod Plain
mod Fronting
mod Spelling
pub mod Counted
mod Marked
mod Paths
pub mod Holding
mod Weighed
pub mod TreePieces
pub mod SumsLemmas

-- For this crate alone.
pub mod Lists
pub mod Standing
mod Made
pub mod Whole
mod InOrder
pub mod EntriesLemmas
mod EntriesBehind

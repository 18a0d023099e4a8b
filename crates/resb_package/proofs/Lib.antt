-- For crates above: those that are `pub`.
mod Lists
mod Heads
mod Entries
pub mod Passing
pub mod Names
mod Inside

mod Lists
pub mod Places
pub mod Strings
pub mod Numbers
pub mod Groups
pub mod Bundles
mod TakenTrees
pub mod Taken
pub mod Sizes
mod Examples

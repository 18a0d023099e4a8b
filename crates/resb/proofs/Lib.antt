-- For the crates above: which files are refused. For this crate alone: how files are read back.
pub mod RefusedFiles
mod ReadBack
mod Orders

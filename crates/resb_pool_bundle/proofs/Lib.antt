-- For crates above: those that are `pub`.
mod Examples
pub mod Steps
mod VersionSteps
mod SizeSteps
mod HeadSteps
pub mod PoolSteps
pub mod PassingFiles
pub mod OwnFiles
mod Older

-- For crates above: those that are `pub`.
mod Blocks
mod Joining
mod Given
mod Faults
mod ReadBack
mod Made
mod OneFile
mod Examples

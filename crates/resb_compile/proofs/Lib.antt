-- For this crate alone.
mod Reasons

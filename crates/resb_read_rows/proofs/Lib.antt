-- For this crate alone.
mod Walking

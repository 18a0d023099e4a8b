-- Nothing for crates above.
mod Files
mod Gone

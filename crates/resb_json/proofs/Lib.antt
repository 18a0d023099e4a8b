-- For crates above: none.
mod Calls
mod Escaping
mod Jobs
mod Listed
mod Values

-- For crates above: none.
mod NumbersLemmas
mod Sinking

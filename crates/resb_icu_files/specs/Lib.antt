-- What a text of ICU's form becomes where it takes other files in.
pub mod Ways
pub mod Rules
pub mod CollationRules
pub mod Stretches
pub mod Writing
pub mod TakenIn
pub mod Message
pub mod Places
pub mod Laws
pub mod Inner

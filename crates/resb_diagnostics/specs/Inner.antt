-- Words of private functions.
pub mod IcuTokens
pub mod Looks
pub mod Tokens
pub mod Marks

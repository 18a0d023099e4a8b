-- The words of the contracts of private functions.
pub mod Heads
pub mod Keys
pub mod Contents

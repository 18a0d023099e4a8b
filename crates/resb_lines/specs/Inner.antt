-- The words of private functions: what is still to be written, and what is still to be looked at.
pub mod Jobs
pub mod Looks
pub mod Room

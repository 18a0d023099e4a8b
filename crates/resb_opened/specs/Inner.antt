-- The words of private functions.
pub mod Holding
pub mod Pending

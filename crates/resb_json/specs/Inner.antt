-- The words of private functions: bytes that are escaped, and what is still to be written.
pub mod Escapes
pub mod Jobs

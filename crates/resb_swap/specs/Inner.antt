-- Words of private functions: nothing here needs to be trusted.
pub mod Seen
pub mod Claims
pub mod Front
pub mod Mirror
pub mod Tables
pub mod Walk

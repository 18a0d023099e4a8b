-- Words of private functions.
pub mod Ahead
pub mod Behind
pub mod Build
pub mod Digits
pub mod Escaped
pub mod Found
pub mod Kept
pub mod Leaf
pub mod Parts
pub mod Quota
pub mod Reach
pub mod Reading
pub mod Steps
pub mod Stops
pub mod Turns
pub mod Unquoted

-- Words of private functions.
pub mod Runs
pub mod TextPieces
pub mod Ticked
pub mod Braces
pub mod Content
pub mod Leaf
pub mod Shown
pub mod Build
pub mod Drafts
pub mod Discovered
pub mod Frames
pub mod Quota
pub mod Failing
pub mod Steps

-- Words of private functions: nothing here needs to be trusted.
pub mod Noted
pub mod Listed
pub mod Within
pub mod LentEndings
pub mod Runs
pub mod Tops
pub mod Chosen
pub mod Marks
pub mod Copies
pub mod EndNumbers

-- Words of private functions.
pub mod Entries
pub mod Left
pub mod Open
pub mod Forms

-- For crates above: those that are `pub`.
pub mod Denoting
pub mod Mapped
pub mod Examples
pub mod Spelled
pub mod Inside
pub mod StringsIn
pub mod TextUnits
pub mod Apart
pub mod Beside
mod Survival
pub mod Unnamed
pub mod WordsBack
pub mod Lists
pub mod Numbers

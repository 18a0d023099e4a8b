-- Words of private functions: texts told apart, in suffix order, in which record each lies, how
-- records stand.
pub mod Extends
pub mod Cuts
pub mod Placing
pub mod Suffixes
pub mod LaidRecords
pub mod ToldApart
pub mod Firsts
pub mod Listing
pub mod Ranked
pub mod Tops
pub mod Ranks

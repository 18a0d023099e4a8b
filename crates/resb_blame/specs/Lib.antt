-- The words of the contracts: what is to blame for a refusal, for which type, and where that leads.
pub mod Blamed
pub mod Blames
pub mod BlamedFields
pub mod BlamedFiles
pub mod Message
pub mod Pointing

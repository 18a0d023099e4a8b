-- For crates above: those that are `pub`.
pub mod ByteRunsLemmas
pub mod DistinctKeys
pub mod HalfLemmas
pub mod Moves
pub mod Lex
pub mod FirstBytes
pub mod Unique
pub mod HeaderPath
pub mod Complete
pub mod Sound
pub mod GrammarLaws
pub mod Listed
pub mod NoAlias
pub mod KeyPlaces
pub mod Making
pub mod MadeOnce
pub mod BothReaders
mod Examples
mod HexPairs
pub mod Numbers
pub mod Lists
pub mod ReachLemmas

-- For crates above: those that are `pub`.
mod LineLemmas
mod RuleLemmas
mod LeftLemmas
mod TableLemmas
mod OpenLemmas
mod LawLemmas
mod CollationLemmas
pub mod KeyLemmas

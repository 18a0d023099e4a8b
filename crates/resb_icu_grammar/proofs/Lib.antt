-- Each text of ICU's form is one bundle.
pub mod KindNames
pub mod FewDigitsLemmas
pub mod Lexical
pub mod Listed
pub mod Groups
pub mod RestLists
pub mod RestGroups
pub mod RestUntyped
pub mod RestRoot
pub mod Faults
pub mod Leaves
pub mod Types
pub mod Moves
pub mod OneStep
pub mod Refused
pub mod Limited
pub mod Blocked
mod OneRefusal
mod WholeReading
mod Examples

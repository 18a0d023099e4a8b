-- Words of the reader's private steps. Public clauses cite those of `Members`, `MemberContent` and
-- `Filling`; the others have not to be trusted.
pub mod Members
pub mod MemberContent
pub mod Leads
pub mod Filling
pub mod Frames
pub mod Rounds
pub mod Counting
pub mod Weighing
pub mod Places

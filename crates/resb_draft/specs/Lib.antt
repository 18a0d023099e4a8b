-- The trees for which drafts stand, and when one is ready.
pub mod Drafts
pub mod Inner
pub mod Pieces

-- The words of the contracts: where a place of a text is, and the line round it; which groups are
-- open; which warnings are due, and what they print as. `Partners`, `Hints`, `Items` and `Causes`
-- have the words in which `Laws` says what the others find.
-- `Inner` has words of private functions.
pub mod Location
pub mod Braces
pub mod Partners
pub mod Clues
pub mod Excerpt
pub mod Hints
pub mod Pieces
pub mod Groups
pub mod Warnings
pub mod IcuWarnings
pub mod Told
pub mod IcuKeys
pub mod Items
pub mod Causes
pub mod IcuCauses
pub mod IcuMarks
pub mod Laws
pub mod Inner

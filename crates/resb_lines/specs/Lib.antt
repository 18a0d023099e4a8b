-- The words of the contracts: the lines of a bundle in a form, and what is promised of how it
-- spells keys and strings. `Inner` has words of private functions.
pub mod Growing
pub mod Lines
pub mod Causes
pub mod Printing
pub mod Inner

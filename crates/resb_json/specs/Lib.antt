-- The words of the contracts: the JSON of a tree, and `Inner` for words of private functions.
pub mod Json
pub mod Inner

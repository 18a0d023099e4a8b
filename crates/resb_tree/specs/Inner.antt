-- Words of private functions, and the lemmas that the laws of `==` cite.
pub mod Dropping
pub mod Comparing
pub mod EqualityLemmas

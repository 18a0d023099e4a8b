-- Words of proofs and of private functions of the text readers.
pub mod Content
pub mod Half
pub mod Reach

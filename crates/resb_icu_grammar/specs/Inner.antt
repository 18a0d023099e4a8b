-- Words of proofs about readings of a text.
pub mod Rest

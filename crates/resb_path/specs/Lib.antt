-- The words of the contracts: what stands at a path in a tree, and at one in a file.
pub mod Finding
pub mod InFiles

-- The words of the contracts: how a tree is laid out in a file, what that layout promises, what a
-- written file is, and why none is written.
pub use Rattle.resb_tree.specs.Tree
pub use Rattle.resb_tree.specs.Aliases
pub use Rattle.resb_format.specs.Bytes
pub use Rattle.resb_format.specs.Strings
pub use Rattle.resb_format.specs.Parts
pub use Rattle.resb_format.specs.Content
pub use Rattle.resb_format.specs.Denotes
pub use Rattle.resb_head.specs.File
pub use Rattle.resb_pool.specs.Plan
pub mod Laid
pub mod InOrder
pub mod KeyBlock
pub mod CompactKeys
pub mod KeyEnds
pub mod KeyLaws
pub mod PlainSize
pub mod WritingFault
pub mod TreeFaults
pub mod WrittenHead
pub mod Written
pub mod Laws

-- The words of the contracts: bytes and their numbers, strings and keys in their blocks, the parts
-- of a body, what a word of it denotes.
pub use Rattle.resb_tree.specs.Tree
pub use Rattle.resb_tree.specs.View
pub use Rattle.resb_tree.specs.Bundle
pub use Rattle.resb_tree.specs.Maps
pub use Rattle.resb_tree.specs.Keys
pub use Rattle.resb_tree.specs.Int28
pub mod Bytes
pub mod Units
pub mod Strings
pub mod Parts
pub mod Lookups
pub mod Content
pub mod Denotes
pub mod Error
pub mod Types
pub mod Descriptor
pub mod Coded
pub mod Views
pub mod StringMessage
pub mod DescriptorReading
pub mod Laws

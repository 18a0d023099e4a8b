-- The grammar of the text form, its readings, and what the laws say of both. `Inner` has words of
-- proofs and of private functions of the text readers.
pub use Rattle.resb_tree.specs.Tree
pub use Rattle.resb_tree.specs.Keys
pub mod Ascii
pub mod ByteRuns
pub mod Lexical
pub mod Items
pub mod GroupTypes
pub mod Group
pub mod BundleText
pub mod Token
pub mod State
pub mod Next
pub mod Paths
pub mod Machine
pub mod Stuck
pub mod Limit
pub mod Expected
pub mod KeyLists
pub mod Laws
pub mod Inner

-- The words of the contracts: what a file is that is written over a pool bundle, how files are laid
-- out, what the laws of written files say, and, from the crates below, why a file isn't written,
-- what a written file is, and for which tree a draft stands.
pub use Rattle.resb_tree.specs.Tree
pub use Rattle.resb_tree.specs.View
pub use Rattle.resb_tree.specs.Bundle
pub use Rattle.resb_draft.specs.Drafts
pub use Rattle.resb_format.specs.Parts
pub use Rattle.resb_format.specs.Denotes
pub use Rattle.resb_head.specs.File
pub use Rattle.resb_format.specs.Laws as FormatLaws
pub use Rattle.resb_pool.specs.Plan
pub use Rattle.resb_layout.specs.Laid
pub use Rattle.resb_tree.specs.LayingOrder
pub use Rattle.resb_layout.specs.KeyBlock
pub use Rattle.resb_layout.specs.PlainSize
pub use Rattle.resb_layout.specs.WritingFault
pub use Rattle.resb_layout.specs.TreeFaults
pub use Rattle.resb_layout.specs.WrittenHead
pub use Rattle.resb_layout.specs.CompactKeys
pub use Rattle.resb_layout.specs.Written
pub use Rattle.resb_pool_bundle.specs.Pool
pub use Rattle.resb_pool_bundle.specs.FileWith
pub use Rattle.resb_lent.specs.LentKeys
pub use Rattle.resb_lent.specs.LentEnds
pub use Rattle.resb_lent.specs.PlanWithPool
pub use Rattle.resb_lent.specs.HeadWithPool
pub mod FaultOf
pub mod WrittenWith
pub mod Layouts
pub mod Laws
pub mod Inner

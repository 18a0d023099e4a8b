-- The words of the contracts: where a pool bundle has a key or a text, how strings are planned
-- beside it, the head of a file over it, and the laws of these.
pub use Rattle.resb_format.specs.Strings
pub use Rattle.resb_format.specs.Lookups
pub use Rattle.resb_pool.specs.Plan
pub use Rattle.resb_layout.specs.Laid
pub use Rattle.resb_layout.specs.WrittenHead
pub use Rattle.resb_layout.specs.CompactKeys
pub use Rattle.resb_pool_bundle.specs.FileWith
pub use Rattle.resb_pool_bundle.specs.Pool
pub use Rattle.resb_layout.specs.Laws as LayoutLaws
pub mod LentKeys
pub mod LentEnds
pub mod LentTexts
pub mod LentBeside
pub mod PlanWithPool
pub mod HeadWithPool
pub mod Entries
pub mod Lending
pub mod LendingEnds
pub mod Laws
pub mod Inner

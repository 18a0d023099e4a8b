-- The words of the contracts: what a pool bundle is made of, the bytes that it has, what a maker
-- holds, and why it makes none.
pub use Rattle.resb_tree.specs.LayingOrder
pub use Rattle.resb_layout.specs.KeyBlock
pub use Rattle.resb_pool.specs.Shared
pub use Rattle.resb_pool_bundle.specs.Checksum
pub mod PoolFile
pub mod PoolOf
pub mod Holding
pub mod PoolFault
pub mod Laws
pub mod Inner

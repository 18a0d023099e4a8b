-- Words of private functions: what a resource is, what is gathered, where keys stand while
-- they are placed, also beside a pool, laying resources one by one over a stack of words and the
-- room for it, how many units they take, and what a file is put together from.
pub mod Lending
pub mod Nodes
pub mod Gathered
pub mod NearPositions
pub mod KeyEnds
pub mod Sizes
pub mod Pooled
pub mod Room
pub mod StackSteps
pub mod Seen
pub mod Counted
pub mod Files
pub mod Numbered
pub mod Beside

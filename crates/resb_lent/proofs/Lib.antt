-- For crates above: those that are `pub`.
mod Wholes
pub mod Standing
mod Listing
mod Lying
mod Together
mod Among
mod EndedBeside
pub mod Once
pub mod Beside
pub mod PlanRead
pub mod PlanRoom
pub mod ReadBeside
pub mod HeadRead
mod Sorting
mod Read
mod Noting
mod Told
mod EndOrder
mod Runs
mod NumberedEnds
pub mod LastEnding
pub mod EndsRead
mod TopsLemmas
mod TopsFound
mod Union
mod Others
mod EarlierCopies
mod Examples

-- Words of private steps. Public clauses cite those of `Elements` and `Named`; the others have not
-- to be trusted.
pub mod Front
pub mod Elements
pub mod Named
pub mod Naming
pub mod AtRoot

-- Words of private steps; they have not to be trusted.
pub mod Listed

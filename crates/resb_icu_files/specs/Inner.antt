-- Words of private functions.
pub mod Steps
pub mod Making
pub mod Rules
pub mod CollationRules

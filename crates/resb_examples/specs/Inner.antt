-- Words of private steps: nothing here has to be trusted.
pub mod Fields

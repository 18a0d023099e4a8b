-- What is read as the type that a user would write.
pub mod Fields
pub mod FieldLaws

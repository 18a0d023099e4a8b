-- ICU's text form as definitions: its bytes, blanks, strings, groups and bundles.
pub mod Bytes
pub mod Blanks
pub mod Escapes
pub mod Pieces
pub mod Kinds
pub mod Unquoted
pub mod Numbers
pub mod Words
pub mod Groups
pub mod Bundle
pub mod Machine
pub mod Expected
pub mod Faults
pub mod Stuck
pub mod Limit
pub mod Laws
pub mod Inner

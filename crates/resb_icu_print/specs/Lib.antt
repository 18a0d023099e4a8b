-- The words of the contracts: how ICU's form spells a bundle, and what keeps it from having a text.
pub mod Printed
pub mod Causes
pub mod Inner

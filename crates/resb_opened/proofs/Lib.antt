-- What crates above may cite: what ascends inside a collection, which member has a name, and the
-- bytes of well-formed UTF-16.
mod AheadLemmas
mod FoundLemmas
mod InsideLemmas
pub mod NamedLemmas
mod OpeningLemmas
pub mod OrderedLemmas
mod StandingLemmas
mod AsciiLemmas
mod TextLemmas
mod TypedLemmas
pub mod Utf16Lemmas

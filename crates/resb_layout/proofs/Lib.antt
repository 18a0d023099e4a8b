-- For crates above: those that are `pub`.
pub mod Once
pub mod Grows
pub mod Forms
pub mod BytesLemmas
mod Contents
pub mod Denoted
pub mod Paid
pub mod InOrderLemmas
pub mod Numbers
pub mod Lists
pub mod StringWords
pub mod ByteOrder
pub mod KeyEndsLemmas
mod UpTo
mod KeptLemmas
mod LeastLemmas

-- What the tokens of a text are, as the calls answer them.
pub mod Answer
pub mod Borrowed
pub mod Lexemes
pub mod Refusal
pub mod Inner

-- Nothing is passed on.
mod Agreeing
mod Heads
mod HexText
mod Lists
mod NamesLemmas
mod Reasons
mod Sizes

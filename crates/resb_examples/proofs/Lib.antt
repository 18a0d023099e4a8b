-- For this crate alone, and for `zones` in it.
mod Costs
mod Steps
mod Fronts
mod Takings
mod ZonesLemmas
mod Lists

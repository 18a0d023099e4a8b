-- Laws of the words of specs/, and lemmas of single functions.
mod WaysLemmas
mod WritingLemmas
mod TakingLemmas
mod OneWay
mod RulesLemmas
mod CollationLemmas
mod OrderLemmas
mod PlacesLemmas

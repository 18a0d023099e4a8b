-- Nothing is passed on.
mod FindingLemmas
mod StepLemmas
mod WayLemmas

-- Nothing is passed on.
mod HeadLemmas
mod HandedLemmas
mod PathLemmas
mod ZoneLemmas
mod OpenedLemmas
mod AscendingLemmas
mod WithinLemmas
mod NamedLemmas
mod SeenLemmas
mod OpeningLemmas
mod SourceLemmas
mod CompilingLemmas
mod DumpingLemmas

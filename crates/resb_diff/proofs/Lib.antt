-- For crates above: those that are `pub`.
mod PathLemmas
mod WalkLemmas
mod MemberLemmas
mod LawLemmas
mod SoLemmas
mod BehindLemmas
mod AppliedLemmas
mod PlaceLemmas
mod GivesLemmas
mod AscendLemmas
mod NeedsLemmas
mod MakeLemmas

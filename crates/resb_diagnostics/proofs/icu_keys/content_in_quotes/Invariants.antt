-- What is behind the place comes behind the bytes before it.
use Rattle.std.proofs.Common.{◌≡◌, ◌++◌, false, take, drop}
use Rattle.resb_diagnostics.specs.IcuKeys.{bytes_in_quotes}
use Rattle.resb_diagnostics.proofs.icu_keys.content_in_quotes.Given as goal

abbrev pub invariant-loop-at : goal.invariant-loop-at
invariant-loop-at l =
    bytes_in_quotes false l.bytes
    ≡ take l.at l.bytes ++ bytes_in_quotes l.is_hidden (drop l.at l.bytes)

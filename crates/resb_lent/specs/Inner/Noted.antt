-- The keys that were gone through.
--     noted bytes place o q       what is known of the key q, of which o was, once bytes were noted
--     NotedUpTo keys start at     at has the keys that begin before start
use Rattle.std.specs.Prelude.{ℕ, ◌<◌, List, Option, Some, None, ◌&&◌, if◌then◌else◌}
use Rattle.std.specs.Prelude.{MatchOption}
use Rattle.std.specs.Str.{bytes_eq, is_utf8}
use Rattle.resb_lent.specs.LentKeys.{StandsWhole, StandsFirst}

abbrev pub noted : List ℕ → ℕ → Option ℕ → List ℕ → Option ℕ
noted bytes place (Some at) q = Some at
noted bytes place None q = if bytes_eq bytes q && is_utf8 bytes then Some place else None

abbrev pub NotedUpTo : List ℕ → ℕ → (List ℕ → Option ℕ) → Type 0
NotedUpTo keys start at =
    (q : List ℕ) → MatchOption (at q) ((p : ℕ) → p < start → StandsWhole keys q p → ⊥)
    (StandsFirst keys q)

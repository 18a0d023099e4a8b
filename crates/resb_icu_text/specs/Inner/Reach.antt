-- How far a reading has looked, for the count of its turns.
use Rattle.std.specs.Prelude.{ℕ, List, length, if◌then◌else◌}
use Rattle.resb_icu_grammar.specs.Unquoted.{begins_comment}

-- how far a reading has looked that stands at a place: up to the text's end where a comment seems
-- to begin there, since it may have no end
unfoldable pub reach : List ℕ → ℕ → ℕ
reach text at = if begins_comment text at then length text else at

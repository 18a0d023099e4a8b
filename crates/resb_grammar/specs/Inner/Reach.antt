-- How far a reading has looked, for the count of its turns.
use Rattle.std.specs.Prelude.{ℕ, ◌==◌, List, length, slice_index, if◌then◌else◌}
use Rattle.resb_grammar.specs.Ascii as ascii

-- how far a reading has looked that stands at a place: up to the text's end where a slash stands
-- there, since it may begin a comment without an end
unfoldable pub reach : List ℕ → ℕ → ℕ
reach text at = if slice_index text at == ascii.slash then length text else at

-- How far an unquoted string goes on, and which ones follow it in a row.
use Rattle.std.specs.Prelude.{◌≡◌, ◌≢◌, ◌≤◌, ◌<◌, ◌&&◌, ℕ, Bool, true, false, List, ◌∷◌}
use Rattle.std.specs.Prelude.{◌++◌, length, slice_index}
use Rattle.resb_grammar.specs.Ascii as ascii
use Rattle.resb_grammar.specs.ByteRuns.{is_white}
use Rattle.resb_icu_grammar.specs.Unquoted.{goes_on, begins_unquoted, Unquoted, UnquotedRow}

-- from one place up to another an unquoted string goes on at each byte, and there no more
pub record GoesOnTo (text : List ℕ) (from to : ℕ) : Type 0 where
  pub order : from ≤ to
  pub fits : to ≤ length text
  pub each : (k : ℕ) → from ≤ k → k < to → goes_on text k ≡ true
  pub longest : goes_on text to ≡ false

-- behind an unquoted string that ends at the first place, with the second behind the blanks there,
-- another follows in its row
abbrev pub row_goes_on : List ℕ → ℕ → ℕ → Bool
row_goes_on text end next = is_white (slice_index text end) && begins_unquoted text next

-- the string that stands at a place of a row that ends at another one: it is the last, or behind it
-- and a blank the row goes on at the next place
pub record StringOfRow (text : List ℕ) (at end : ℕ) (string : List ℕ) (next : ℕ) : Type 0 where
  pub to : ℕ
  pub word : Unquoted text at to string
  pub last : next ≡ end → (s : List ℕ) → UnquotedRow text at end s → s ≡ string
  pub on : next ≢ end → (s : List ℕ) → UnquotedRow text at end s
      → (later : List ℕ) × UnquotedRow text next end later × (s ≡ string ++ ascii.space ∷ later)

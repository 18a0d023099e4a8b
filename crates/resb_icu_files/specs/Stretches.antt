-- What stands between the groups that take files in: blanks, quoted strings, and other bytes.
-- Beside a place stands how many groups are open there; nothing is passed behind the root.
use Rattle.std.specs.Prelude.{◌≡◌, ◌≢◌, ◌+◌, ◌-◌, ◌<◌, ◌==◌, ◌&&◌, ℕ, Bool, true, false, Option}
use Rattle.std.specs.Prelude.{Some, None, List, length, slice_index, nat_le, if◌then◌else◌}
use Rattle.resb_grammar.specs.Ascii as ascii
use Rattle.resb_icu_grammar.specs.Blanks.{Skip, IsSolid}
use Rattle.resb_icu_grammar.specs.Stuck.{NoStringAt}
use Rattle.resb_icu_grammar.specs.Unquoted.{begins_comment}
use Rattle.resb_icu_grammar.specs.Words.{Text}
use Rattle.resb_icu_files.specs.Ways.{NoFileGroup}

-- a byte that is none of a blank, of a quoted string and of a group that takes a file in
pub record IsOther (text : List ℕ) (at : ℕ) : Type 0 where
  pub inside : at < length text
  pub solid : IsSolid text at
  pub no_quote : slice_index text at ≢ ascii.quote
  pub no_comment : begins_comment text at ≡ false
  pub no_group : NoFileGroup text at

-- the place itself, where a `}` stands there
abbrev pub closer_at : List ℕ → ℕ → Option ℕ
closer_at text at = if slice_index text at == ascii.right_brace then Some at else None

-- the root's `}` stands there: no other group is open
abbrev pub closes_root : List ℕ → ℕ → ℕ → Bool
closes_root text at depth = slice_index text at == ascii.right_brace && nat_le depth 1

-- how many groups are open behind a byte
abbrev pub depth_behind : ℕ → ℕ → ℕ
depth_behind b depth =
    if b == ascii.left_brace then depth + 1
    else (if b == ascii.right_brace then depth - 1 else depth)

-- one thing is passed: blanks, a quoted string, or another byte but the root's `}`
pub data Passes (text : List ℕ) (at depth : ℕ) : ℕ → ℕ → Type 0 where
  blanks : (to : ℕ) → at < to → Skip text at to → Passes text at depth to depth
  quoted : (to : ℕ) (bytes : List ℕ) → at < to → slice_index text at ≡ ascii.quote
      → Text text at to bytes → Passes text at depth to depth
  other : IsOther text at → closes_root text at depth ≡ false
      → Passes text at depth (at + 1) (depth_behind (slice_index text at) depth)

-- as much as stands between two places
pub data Stretch (text : List ℕ) : ℕ → ℕ → ℕ → ℕ → Type 0 where
  nothing : (at depth : ℕ) → Stretch text at depth at depth
  more : (at mid to depth behind last : ℕ) → Passes text at depth mid behind
      → Stretch text mid behind to last → Stretch text at depth to last

-- here the root or the text ends, or a reader has to stop: at a quote that begins no string, or at
-- a comment that has no end
pub data Ends (text : List ℕ) (at depth : ℕ) : Type 0 where
  root_closes : closes_root text at depth ≡ true → Ends text at depth
  at_the_end : at ≡ length text → Ends text at depth
  no_string : slice_index text at ≡ ascii.quote → NoStringAt text at → Ends text at depth
  open_comment : begins_comment text at ≡ true → IsSolid text at → Ends text at depth

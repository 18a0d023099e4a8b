-- The brace that waits for its other half where a text ends.
--     mode_at text n        what the byte at a place stands in: tokens, quotes or a comment
--     depth_at f text n     how many braces are open there, in a text of this form
--     innermost_open text   the last `{` that led to the depth at which the text ends
--     innermost_icu_open text   the same in a text of ICU's form
use Rattle.std.specs.Prelude.{ℕ, zero, suc, pred, Bool, true, false, ◌&&◌, ◌==◌, List, length}
use Rattle.std.specs.Prelude.{slice_index, if◌then◌else◌, Option, Some, None}
use Rattle.resb_diagnostics.specs.declared.braces.Mode.{Mode}
use Rattle.resb_diagnostics.specs.declared.braces.Mode.TheVariants as mode
use Rattle.resb_diagnostics.specs.declared.braces.IcuMode.{IcuMode}
use Rattle.resb_diagnostics.specs.declared.braces.IcuMode.TheVariants.{As, Escape, BlockStart}
use Rattle.resb_grammar.specs.Ascii.{quote, star, slash, left_brace, right_brace, line_feed}
use Rattle.resb_grammar.specs.Ascii.{carriage_return}

-- the character \ by its number in ASCII
abbrev pub backslash : ℕ
backslash = 92

-- what the bytes of a text stand in: the first one; the one behind a byte that stands in this; and
-- whether a brace in it is a token
pub record Form (M : Type 0) : Type 0 where
  pub start : M
  pub behind : M → ℕ → M
  pub has_tokens : M → Bool

-- what the byte at a place stands in
abbrev pub mode_in : {M : Type 0} → Form M → List ℕ → ℕ → M
mode_in f text zero = f.start
mode_in f text (suc n) = f.behind (mode_in f text n) (slice_index text n)

-- among tokens: a quote begins a string, a slash may begin a comment
abbrev pub behind_token : ℕ → Mode
behind_token b =
    if b == quote then mode.Quotes else (if b == slash then mode.Slash else mode.Tokens)

-- in a comment of stars: a star may end it
abbrev pub behind_block : ℕ → Mode
behind_block b = if b == star then mode.Star else mode.BlockComment

-- what the byte behind one in this mode stands in
abbrev pub mode_behind : Mode → ℕ → Mode
mode_behind mode.Tokens b = behind_token b
mode_behind mode.Slash b =
    if b == slash then mode.LineComment
    else (if b == star then mode.BlockComment else behind_token b)
mode_behind mode.Quotes b = if b == quote then mode.Tokens else mode.Quotes
mode_behind mode.LineComment b = if b == line_feed then mode.Tokens else mode.LineComment
mode_behind mode.BlockComment b = behind_block b
mode_behind mode.Star b = if b == slash then mode.Tokens else behind_block b

-- a brace in this mode is a token
abbrev pub has_tokens : Mode → Bool
has_tokens mode.Tokens = true
has_tokens mode.Slash = true
has_tokens _ = false

-- the form that `resb_grammar` has; a text begins among tokens
abbrev pub plain_form : Form Mode
plain_form = record { start = mode.Tokens; behind = mode_behind; has_tokens = has_tokens }

-- what the byte at a place of a text of that form stands in
abbrev pub mode_at : List ℕ → ℕ → Mode
mode_at text n = mode_in plain_form text n

-- in a text of ICU's form a backslash in quotes hides the byte behind it, a byte stands between
-- `/*` and `*/`, and a carriage return ends a line too
abbrev pub icu_mode_behind : IcuMode → ℕ → IcuMode
icu_mode_behind Escape b = As mode.Quotes
icu_mode_behind BlockStart b = As mode.BlockComment
icu_mode_behind (As mode.Quotes) b =
    if b == backslash then Escape else As (mode_behind mode.Quotes b)
icu_mode_behind (As mode.Slash) b = if b == star then BlockStart else As (mode_behind mode.Slash b)
icu_mode_behind (As mode.LineComment) b =
    if b == carriage_return then As mode.Tokens else As (mode_behind mode.LineComment b)
icu_mode_behind (As m) b = As (mode_behind m b)

-- a brace in this mode is a token
abbrev pub has_icu_tokens : IcuMode → Bool
has_icu_tokens (As m) = has_tokens m
has_icu_tokens _ = false

-- ICU's form
abbrev pub icu_form : Form IcuMode
icu_form =
    record { start = As mode.Tokens; behind = icu_mode_behind; has_tokens = has_icu_tokens }

-- how many braces are open behind a byte: one more behind `{`, one less behind `}`
abbrev pub depth_behind : Bool → ℕ → ℕ → ℕ
depth_behind false b depth = depth
depth_behind true b depth =
    if b == left_brace then suc depth else (if b == right_brace then pred depth else depth)

-- how many braces are open behind so many bytes
abbrev pub depth_at : {M : Type 0} → Form M → List ℕ → ℕ → ℕ
depth_at f text zero = 0
depth_at f text (suc n) =
    depth_behind (f.has_tokens (mode_in f text n)) (slice_index text n) (depth_at f text n)

-- a `{` stands at a place, and so many are open behind it
abbrev pub opens_to : {M : Type 0} → Form M → ℕ → List ℕ → ℕ → Bool
opens_to f depth text n =
    (f.has_tokens (mode_in f text n) && slice_index text n == left_brace)
    && suc (depth_at f text n) == depth

-- the last of so many bytes that is a `{` behind which so many are open
abbrev pub last_to : {M : Type 0} → Form M → ℕ → List ℕ → ℕ → Option ℕ
last_to f depth text zero = None
last_to f depth text (suc n) =
    if opens_to f depth text n then Some n else last_to f depth text n

-- the innermost `{` that is open where the text ends: the last one that led to that depth
abbrev pub innermost_in : {M : Type 0} → Form M → List ℕ → Option ℕ
innermost_in f text = last_to f (depth_at f text (length text)) text (length text)

-- the same in a text of the form that `resb_grammar` has
abbrev pub innermost_open : List ℕ → Option ℕ
innermost_open text = innermost_in plain_form text

-- and in one of ICU's form
abbrev pub innermost_icu_open : List ℕ → Option ℕ
innermost_icu_open text = innermost_in icu_form text

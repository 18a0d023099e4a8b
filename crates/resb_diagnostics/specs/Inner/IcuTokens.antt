-- What the code finds between one place of a text of ICU's form and another.
use Rattle.std.specs.Prelude.{◌≡◌, ℕ, ◌+◌, ◌-◌, ◌<◌, ◌≤◌, Bool, true, false, List, length}
use Rattle.std.specs.Prelude.{slice_index, ◌==◌, if◌then◌else◌, ⊤, Option, Some, None}
use Rattle.resb_grammar.specs.Ascii.{quote, left_brace, right_brace, comma}
use Rattle.resb_grammar.specs.ByteRuns.{is_line_end}
use Rattle.resb_diagnostics.specs.Braces.{mode_in, icu_form, icu_mode_behind, has_icu_tokens}
use Rattle.resb_diagnostics.specs.Braces.{behind_token}
use Rattle.resb_diagnostics.specs.IcuWarnings.{is_icu_quoted, word_goes_on, is_in_string}
use Rattle.resb_diagnostics.specs.IcuWarnings.{line_ended, is_colon, is_behind_colon}
use Rattle.resb_diagnostics.specs.IcuWarnings.{icu_word_start, icu_last_at}
use Rattle.resb_diagnostics.specs.IcuWarnings.{icu_warned, behind_some, of_some_token, and_one}
use Rattle.resb_diagnostics.specs.declared.braces.IcuMode.{IcuMode}
use Rattle.resb_diagnostics.specs.declared.braces.IcuMode.TheVariants.{As}
use Rattle.resb_diagnostics.specs.declared.braces.Mode.TheVariants as mode
use Rattle.resb_diagnostics.specs.declared.icu_runs.Before.{Before}
use Rattle.resb_diagnostics.specs.declared.icu_steps.IcuStep.{IcuStep}
use Rattle.resb_diagnostics.specs.declared.icu_tokens.IcuToken.{IcuToken}
use Rattle.resb_diagnostics.specs.declared.icu_tokens.IcuToken.TheVariants as token
use Rattle.resb_diagnostics.specs.declared.icu_walk.IcuWalk.{IcuWalk}
use Rattle.resb_diagnostics.specs.declared.icu_warning.Look.{Look}
use Rattle.resb_diagnostics.specs.declared.icu_keys.Keys.{Keys}
use Rattle.resb_diagnostics.specs.Groups.{groups_behind}
use Rattle.resb_diagnostics.specs.IcuKeys.{icu_piece, icu_groups_at}
use Rattle.resb_diagnostics.specs.Inner.Looks.{ShowsNesting}
use Rattle.std.specs.Option.{option_map}

-- a piece begins inside the text, and a word stands there
abbrev pub Fits : List ℕ → IcuToken → Type 0
Fits text (token.Piece n) = n < length text
Fits text (token.Word from to) = (from < to) × (to ≤ length text)
Fits text _ = ⊤

-- the same of a token, if there is one
abbrev pub IsIn : List ℕ → Option IcuToken → Type 0
IsIn text None = ⊤
IsIn text (Some t) = Fits text t

-- where a piece or a word was found, it begins at this place
abbrev pub BeginsAt : ℕ → Option IcuToken → Type 0
BeginsAt at (Some (token.Piece n)) = n ≡ at
BeginsAt at (Some (token.Word from to)) = from ≡ at
BeginsAt at _ = ⊤

-- this says whether a line ended before a place, and whether it is behind a `:`
pub record IsBefore (text : List ℕ) (n : ℕ) (b : Before) : Type 0 where
  pub ended : b.has_ended ≡ line_ended text n
  pub colon : b.has_colon ≡ is_behind_colon text n

-- the same of a piece or a word
abbrev pub IsBeforeToken : List ℕ → IcuToken → Before → Type 0
IsBeforeToken text (token.Piece n) b = IsBefore text n b
IsBeforeToken text (token.Word from to) b = IsBefore text from b
IsBeforeToken text _ b = ⊤

-- the same where a token was found
abbrev pub IsBeforeSome : List ℕ → Option IcuToken → Before → Type 0
IsBeforeSome text None b = ⊤
IsBeforeSome text (Some t) b = IsBeforeToken text t b

-- the token that is this byte at a place, if it is one
abbrev pub icu_sign : ℕ → ℕ → Option IcuToken
icu_sign n b =
    if b == left_brace then Some (token.Open n)
    else (if b == right_brace then Some token.Close
    else (if b == comma then Some token.Comma else None))

-- what the byte at a place stands in
abbrev pub icu_mode_at : List ℕ → ℕ → IcuMode
icu_mode_at text n = mode_in icu_form text n

-- the byte at a place stands in quotes, behind no backslash
pub record IsInQuotes (text : List ℕ) (at : ℕ) : Type 0 where
  pub mode : icu_mode_at text at ≡ As mode.Quotes

-- the byte at a place stands among tokens, no slash before it begins a comment with it, and no word
-- goes on there
pub record IsIcuBetween (text : List ℕ) (at : ℕ) : Type 0 where
  pub tokens : has_icu_tokens (icu_mode_at text at) ≡ true
  pub next : icu_mode_behind (icu_mode_at text at) (slice_index text at)
      ≡ As (behind_token (slice_index text at))
  pub word : word_goes_on text at ≡ true → icu_word_start text at ≡ at

-- from one place to another this token stands, if one does, and nothing else
pub record IcuPasses (text : List ℕ) (from to : ℕ) (token : Option IcuToken) : Type 0 where
  pub order : from ≤ to
  pub fits : to ≤ length text
  pub last : icu_last_at text to
      ≡ behind_some text token (icu_last_at text from)
  pub found : icu_warned text to
      ≡ and_one (icu_warned text from) (of_some_token text token (icu_last_at text from))
  pub groups : icu_groups_at text to
      ≡ groups_behind (option_map (icu_piece text) token) (icu_groups_at text from)

-- no byte of a word or in quotes stands from one place on and before another, and no `:`
abbrev pub IsSilent : List ℕ → ℕ → ℕ → Type 0
IsSilent text from to = (k : ℕ) → from ≤ k → k < to
    → (is_in_string text k ≡ false) × (is_colon text k ≡ false)

-- a word goes on from one place up to another, and there no more
pub record IsWordRest (text : List ℕ) (from to : ℕ) : Type 0 where
  pub order : from ≤ to
  pub fits : to ≤ length text
  pub each : (k : ℕ) → from ≤ k → k < to → word_goes_on text k ≡ true
  pub longest : word_goes_on text to ≡ false

-- no token stands between two places, nothing in quotes and no `:`, and the code can go on from the
-- second
pub record IsIcuQuiet (text : List ℕ) (from to : ℕ) : Type 0 where
  pub more : from < to
  pub passes : IcuPasses text from to None
  pub silence : IsSilent text from to
  pub between : to < length text → IsIcuBetween text to

-- what the step tells stands between a place and its end, and the code can go on from there
pub record IsIcuStep (text : List ℕ) (from : ℕ) (s : IcuStep) : Type 0 where
  pub more : from < s.end
  pub passes : IcuPasses text from s.end s.token
  pub inside : IsIn text s.token
  pub begins : BeginsAt from s.token
  pub before : s.end < length text → IsBefore text s.end s.before
  pub between : s.end < length text → IsIcuBetween text s.end

-- all bytes between two places stand in quotes, and tokens behind them, unless the text ends there
pub record IsQuotedRest (text : List ℕ) (from to : ℕ) : Type 0 where
  pub order : from ≤ to
  pub fits : to ≤ length text
  pub quoted : (k : ℕ) → from ≤ k → k < to → is_icu_quoted (icu_mode_at text k) ≡ true
  pub ends : to < length text
      → (from < to) × IsInQuotes text (to - 1) × (slice_index text (to - 1) ≡ quote)

-- a comment of a line goes on up to behind its line end, or to the text's end
pub record IsIcuLineRest (text : List ℕ) (from to : ℕ) : Type 0 where
  pub order : from ≤ to
  pub fits : to ≤ length text
  pub none : (k : ℕ) → from ≤ k → k + 1 < to → is_line_end (slice_index text k) ≡ false
  pub ends : to < length text → (from < to) × (is_line_end (slice_index text (to - 1)) ≡ true)

-- the code has gone through a text up to a place between tokens, or to its end
pub record IsIcuWalk (w : IcuWalk) (whole : List ℕ) : Type 0 where
  pub text : w.text.now ≡ whole
  pub fits : w.at ≤ length whole
  pub between : w.at < length whole → IsIcuBetween whole w.at
  pub before : w.at < length whole → IsBefore whole w.at w.before

-- what the code knows of the tokens behind which it has gone, and the warnings that it has found
pub record HasLooked (l : Look) (whole : List ℕ) : Type 0 where
  pub walk : IsIcuWalk l.walk whole
  pub last : l.last ≡ icu_last_at whole l.walk.at
  pub found : l.found.items ≡ icu_warned whole l.walk.at

-- the groups that the code has are those that are open where it has gone
pub record HasListed (k : Keys) (whole : List ℕ) : Type 0 where
  pub walk : IsIcuWalk k.walk whole
  pub groups : ShowsNesting k.groups (icu_groups_at whole k.walk.at)

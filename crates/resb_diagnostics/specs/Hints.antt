-- What the clues of `Clues` are, apart from the walks by which these find them.
--     IsLastLong f text n found        the last string in quotes that spans lines before a place
--     IsFirstOutdent f text n found    the first place of so many bytes at which a line begins that
--                                      is indented too little for the `{` it stands behind
use Rattle.std.specs.Prelude.{◌≡◌, ◌<◌, ◌≤◌, ℕ, suc, ◌+◌, true, false, List, slice_index}
use Rattle.std.specs.Prelude.{Option, Some, None}
use Rattle.resb_grammar.specs.Ascii.{quote, line_feed}
use Rattle.resb_diagnostics.specs.Braces.{Form, mode_in}
use Rattle.resb_diagnostics.specs.Partners.{IsAmongTokens, Opens, Balanced}
use Rattle.resb_diagnostics.specs.Excerpt.{begins_line, IsOneLine}
use Rattle.resb_diagnostics.specs.Clues.{is_blank, stands_out}

-- a string begins with the quote at one place and goes on up to another, that included: no byte
-- behind the quote stands among tokens
pub record GoesOnTo {M : Type 0} (f : Form M) (text : List ℕ) (q n : ℕ) : Type 0 where
  pub begins : IsAmongTokens f text quote q
  pub order : q < n
  pub inside : (k : ℕ) → q < k → k ≤ n → f.has_tokens (mode_in f text k) ≡ false

-- the string that begins with the quote at one place has a line feed before another
pub record SpansLines {M : Type 0} (f : Form M) (text : List ℕ) (n q : ℕ) : Type 0 where
  pub feed : ℕ
  pub before : feed < n
  pub stands : slice_index text feed ≡ line_feed
  pub string : GoesOnTo f text q feed

-- the last string that has a line feed before a place begins here, or none has one
abbrev pub IsLastLong : {M : Type 0} → Form M → List ℕ → ℕ → Option ℕ → Type 0
IsLastLong f text n (Some q) =
    SpansLines f text n q × ((r : ℕ) → q < r → SpansLines f text n r → ⊥)
IsLastLong f text n None = (q : ℕ) → SpansLines f text n q → ⊥

-- the line of a place begins at another, and with so many blanks before the place
pub record IsIndented (text : List ℕ) (n start indent : ℕ) : Type 0 where
  pub begins : begins_line text start ≡ true
  pub line : IsOneLine text start n
  pub fits : start + indent ≤ n
  pub blanks : (k : ℕ) → start ≤ k → k < start + indent → is_blank (slice_index text k) ≡ true
  pub ends : start + indent < n → is_blank (slice_index text (start + indent)) ≡ false

-- the `{` at one place is the innermost that is open at another: each brace between has its partner
pub record Encloses {M : Type 0} (f : Form M) (text : List ℕ) (p n : ℕ) : Type 0 where
  pub opens : Opens f text p
  pub between : Balanced f text (suc p) n

-- at a place among tokens a line begins, behind its blanks, that is indented too little for the
-- line of the innermost `{` that is open there
pub record IsOutdent {M : Type 0} (f : Form M) (text : List ℕ) (n : ℕ) : Type 0 where
  pub tokens : f.has_tokens (mode_in f text n) ≡ true
  pub start : ℕ
  pub indent : ℕ
  pub indented : IsIndented text n start indent
  pub first : start + indent ≡ n
  pub brace : ℕ
  pub encloses : Encloses f text brace n
  pub outer_start : ℕ
  pub outer : ℕ
  pub outer_indented : IsIndented text brace outer_start outer
  pub out : stands_out (slice_index text n) indent (Some outer) ≡ true

-- the first of so many bytes at which such a line begins is this, or none is
abbrev pub IsFirstOutdent : {M : Type 0} → Form M → List ℕ → ℕ → Option ℕ → Type 0
IsFirstOutdent f text n (Some at) =
    (at < n) × IsOutdent f text at × ((k : ℕ) → k < at → IsOutdent f text k → ⊥)
IsFirstOutdent f text n None = (k : ℕ) → k < n → IsOutdent f text k → ⊥

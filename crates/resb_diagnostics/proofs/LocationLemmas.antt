-- Bounds of lines and columns, and where no line begins.
use Rattle.std.proofs.Common.{◌≡◌, ◌∙◌, ℕ, suc, ◌+◌, ◌≤◌, Bool, true, false, List}
use Rattle.std.proofs.Common.{◌-◌, ap, arith}
use Rattle.std.specs.Prelude.{zero, ◌==◌, slice_index}
use Rattle.resb_grammar.specs.Ascii.{line_feed}
use Rattle.resb_diagnostics.specs.Inner.Tokens.{NoByte, IsFirst}
use Rattle.resb_diagnostics.specs.Location.{line_behind, line_at, column_behind, column_at}
use Rattle.resb_diagnostics.specs.Location.{begins_character}

next_line : (b : Bool) (n m : ℕ) → n ≤ m → line_behind b n ≤ suc m
next_line true n m h = omega (arith, h)
next_line false n m h = omega (arith, h)

next_column : (b c : Bool) (n m : ℕ) → n ≤ m → 1 ≤ m → column_behind b c n ≤ suc m
next_column true c n m h k = omega (arith, k)
next_column false true n m h k = omega (arith, h)
next_column false false n m h k = omega (arith, h)

-- no more lines begin than there are bytes, and the first
pub few_lines : (text : List ℕ) (n : ℕ) → line_at text n ≤ suc n
few_lines text zero = omega arith
few_lines text (suc n) =
    next_line (slice_index text n == line_feed) (line_at text n) (suc n) (few_lines text n)

-- no line has more characters than there are bytes
pub few_columns : (text : List ℕ) (n : ℕ) → column_at text n ≤ suc n
few_columns text zero = omega arith
few_columns text (suc n) =
    next_column (slice_index text n == line_feed) (begins_character (slice_index text n))
    (column_at text n) (suc n) (few_columns text n) (omega arith)

pub ruleset few_places = (few_lines, few_columns)

-- no line begins where no line feed stands
pub same_line : (text : List ℕ) (from n : ℕ) → NoByte line_feed text from (from + n)
    → line_at text (from + n) ≡ line_at text from
same_line text from zero none =
    let here : from + 0 ≡ from = omega arith in
    ap (line_at text) here
same_line text from (suc n) none =
    let next : from + suc n ≡ suc (from + n) = omega arith in
    ap (line_at text) next
    ∙ ap (λ b. line_behind b (line_at text (from + n)))
    (none (from + n) (omega arith) (omega arith))
    ∙ same_line text from n (λ k low high. none k low (omega (arith, high)))

-- a line feed at a place, and none before it
pub next_feed : (text : List ℕ) (from to at : ℕ) → IsFirst line_feed text from to at
    → line_at text (suc at) ≡ suc (line_at text from)
next_feed text from to at first =
    let is : at ≡ from + (at - from) = omega (arith, first.order) in
    let quiet = same_line text from (at - from)
    (λ k low high. first.none k low (omega (arith, high, is))) in
    ap (λ b. line_behind (b == line_feed) (line_at text at)) first.stands
    ∙ ap (λ k. suc (line_at text k)) is ∙ ap suc quiet

-- the column behind a line feed
pub behind_feed : (text : List ℕ) (at : ℕ) → slice_index text at ≡ line_feed
    → column_at text (suc at) ≡ 1
behind_feed text at is =
    ap (λ b. column_behind (b == line_feed) (begins_character b) (column_at text at)) is

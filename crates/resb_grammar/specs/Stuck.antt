-- Where a reading cannot go on, and what is expected there.
use Rattle.std.specs.Prelude.{◌≡◌, ℕ, Bool, true, false, ◌==◌, List, length, None, slice_index}
use Rattle.std.specs.Prelude.{if◌then◌else◌}
use Rattle.resb_grammar.specs.Ascii as ascii
use Rattle.resb_grammar.specs.Lexical.{Text}
use Rattle.resb_grammar.specs.Group.{hex_bytes}
use Rattle.resb_grammar.specs.Machine.{Body, table_body, Open}
use Rattle.resb_grammar.specs.Machine.{VectorStage, at_start, after_comma, State, named}
use Rattle.resb_grammar.specs.Machine.{titled, inside, typed, in_binary, in_integer}
use Rattle.resb_grammar.specs.Machine.{filled, in_vector, finished, is_key_place, Move, At}
use Rattle.resb_grammar.specs.ByteRuns.{is_number_start}
use Rattle.resb_grammar.specs.declared.expected.Expected.{Expected}
use Rattle.resb_grammar.specs.declared.expected.Expected.TheVariants as expect

-- where a type or `{` must stand
abbrev pub expected_brace : ℕ → Expected
expected_brace b = if b == ascii.colon then expect.TypeName else expect.LeftBrace

-- where a key or `}` must stand
abbrev pub expected_key : ℕ → Expected
expected_key b = if b == ascii.quote then expect.Text else expect.RightBrace

-- where an item may stand
abbrev pub expected_item : ℕ → Expected
expected_item b =
    if b == ascii.quote then expect.Text else if b == ascii.colon then expect.TypeName else
    expect.Item

-- where a number or `}` may stand
abbrev pub expected_number : ℕ → Expected
expected_number b = if is_number_start b then expect.Number else expect.RightBrace

-- in a group that holds items
abbrev pub expected_in : Body → Bool → ℕ → Expected
expected_in table_body true b = expected_key b
expected_in table_body false b = expected_brace b
expected_in _ key b = expected_item b

-- what was expected inside a vector, by what stands before the place and by the byte there
abbrev pub expected_in_vector : VectorStage → ℕ → Expected
expected_in_vector at_start b = expected_number b
expected_in_vector after_comma b = expected_number b
expected_in_vector _ b = expect.RightBrace

-- what is expected where nothing that may stand in this state stands, by the byte there
abbrev pub expectation : State → ℕ → Expected
expectation (named name) b = expected_brace b
expectation (titled title) b = expect.LeftBrace
expectation (inside o) b = expected_in o.frame.body (is_key_place o.frame.items) b
expectation (typed kind o) b = expect.LeftBrace
expectation (in_integer o) b = expect.Number
expectation (filled t o) b = expect.RightBrace
expectation (in_vector place ns o) b = expected_in_vector place b
expectation (finished title items) b = expect.EndOfText
expectation _ b = expect.Text

-- no token that may stand in this state stands there
abbrev pub NoToken : List ℕ → ℕ → State → Type 0
NoToken text at s = (to : ℕ) (u : State) → Move text at s to u → ⊥

-- the text may end there
abbrev pub IsEnd : List ℕ → ℕ → State → Type 0
IsEnd text at (finished title items) = at ≡ length text
IsEnd text at _ = ⊥

-- the content of `:bin{..}` stands there, whatever its characters are
abbrev pub HasDigits : List ℕ → ℕ → State → Type 0
HasDigits text at (in_binary o) = (to : ℕ) × (s : List ℕ) × Text text at to s
HasDigits text at _ = ⊥

-- a reading comes to this place, and nothing that may stand there does
pub record IsBlocked (text : List ℕ) (at : ℕ) (s : State) : Type 0 where
  pub reached : At text at s
  pub none : NoToken text at s
  pub no_end : IsEnd text at s → ⊥
  pub no_digits : HasDigits text at s → ⊥

-- a reading gets stuck at this place: nothing that may stand there does, and this was expected
pub data Stuck (text : List ℕ) (at : ℕ) : Expected → Type 0 where
  blocked : (s : State) → IsBlocked text at s → Stuck text at (expectation s (slice_index text at))
  no_pairs : (o : Open) (to : ℕ) (s : List ℕ) → At text at (in_binary o) → Text text at to s
      → hex_bytes s ≡ None → Stuck text at expect.HexPairs

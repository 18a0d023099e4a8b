-- A `}` and a comma have the places at which they stand.
use Rattle.std.proofs.Common.{◌≡◌, ◌∙◌, ℕ, ◌+◌, ◌≤◌, Bool, true, false, ◌==◌, List}
use Rattle.std.proofs.Common.{refl, sym, ap, arith, Option, Some, None}
use Rattle.std.specs.Prelude.{slice_index, slice_range, if◌then◌else◌}
use Rattle.resb_grammar.specs.Ascii.{left_brace, right_brace, comma, quote}
use Rattle.resb_grammar.specs.ByteRuns.{is_word}
use Rattle.resb_diagnostics.specs.Braces.{mode_at}
use Rattle.resb_diagnostics.specs.Pieces.{TextPiece, a_string, a_type, opening, closing, a_comma}
use Rattle.resb_diagnostics.specs.Pieces.{piece_at, piece_in, token_at, word_at, word_from}
use Rattle.resb_diagnostics.specs.Pieces.{word_start, quoted_at, is_behind_colon, bytes_placed}
use Rattle.resb_diagnostics.specs.declared.braces.Mode.{Mode}
use Rattle.resb_diagnostics.specs.declared.braces.Mode.TheVariants as modes

-- pieces by number
abbrev pub kind : Option TextPiece → ℕ
kind None = 0
kind (Some (a_string s)) = 1
kind (Some (a_type name)) = 2
kind (Some opening) = 3
kind (Some (closing n)) = 4
kind (Some (a_comma n)) = 5

abbrev place : Option TextPiece → ℕ
place (Some (closing n)) = n
place (Some (a_comma n)) = n
place _ = 0

-- why a byte ends this piece, or none
data Cause (text : List ℕ) (n : ℕ) (p : Option TextPiece) : Type 0 where
  string_or_none : kind p ≤ 2 → Cause text n p
  left : p ≡ Some opening → Cause text n p
  right : p ≡ Some (closing n) → Cause text n p
  comma_byte : p ≡ Some (a_comma n) → Cause text n p

pub word_kind : (text : List ℕ) (n : ℕ) → kind (word_at text n) ≤ 2
word_kind text n = by (is_word (slice_index text (n + 1)))
  where
    named : (b : Bool) (from : ℕ)
        → kind (Some (if b then a_type (slice_range text from (n + 1))
        else a_string (bytes_placed (slice_range text from (n + 1)) from))) ≤ 2
    named true from = omega arith
    named false from = omega arith

    by : (b : Bool)
        → kind (if b then None else Some (word_from text (word_start text n) (n + 1))) ≤ 2
    by true = omega arith
    by false = named (is_behind_colon text (word_start text n)) (word_start text n)

token_cause : (text : List ℕ) (n : ℕ) → Cause text n (token_at text n (slice_index text n))
token_cause text n =
    by (is_word (slice_index text n)) (slice_index text n == left_brace)
    (slice_index text n == right_brace) (slice_index text n == comma)
  where
    by : (a b c d : Bool) → Cause text n (if a then word_at text n
        else (if b then Some opening
        else (if c then Some (closing n) else (if d then Some (a_comma n) else None))))
    by true b c d = string_or_none (word_kind text n)
    by false true c d = left refl
    by false false true d = right refl
    by false false false true = comma_byte refl
    by false false false false = string_or_none (omega arith)

cause : (text : List ℕ) (n : ℕ) → Cause text n (piece_at text n)
cause text n = by (mode_at text n)
  where
    closes : (b : Bool) → Cause text n (if b then Some (quoted_at text n) else None)
    closes true = string_or_none (omega arith)
    closes false = string_or_none (omega arith)

    by : (m : Mode) → Cause text n (piece_in m text n)
    by modes.Tokens = token_cause text n
    by modes.Slash = token_cause text n
    by modes.Quotes = closes (slice_index text n == quote)
    by modes.LineComment = string_or_none (omega arith)
    by modes.BlockComment = string_or_none (omega arith)
    by modes.Star = string_or_none (omega arith)

pub closing_place : (text : List ℕ) (n m : ℕ) → piece_at text n ≡ Some (closing m) → m ≡ n
closing_place text n m e = elim (cause text n) [
  | string_or_none k ↦ absurd (omega (arith, k, ap kind e))
  | left i ↦ absurd (omega (arith, ap kind (sym e ∙ i)))
  | right i ↦ ap place (sym e ∙ i)
  | comma_byte i ↦ absurd (omega (arith, ap kind (sym e ∙ i)))
]

pub comma_place : (text : List ℕ) (n m : ℕ) → piece_at text n ≡ Some (a_comma m) → m ≡ n
comma_place text n m e = elim (cause text n) [
  | string_or_none k ↦ absurd (omega (arith, k, ap kind e))
  | left i ↦ absurd (omega (arith, ap kind (sym e ∙ i)))
  | right i ↦ absurd (omega (arith, ap kind (sym e ∙ i)))
  | comma_byte i ↦ ap place (sym e ∙ i)
]

-- What a token says of the text, and how a token leads on.
use Rattle.std.proofs.Common.{◌≡◌, ℕ, suc, Bool, true, false, List, refl, sym, ◌∙◌, ap, subst}
use Rattle.std.proofs.Common.{arith, Some, None}
use Rattle.std.specs.Prelude.{◌==◌, cond, slice_index}
use Rattle.std.proofs.lemmas.Bool.{false≢true, or_right}
use Rattle.std.proofs.lemmas.Bool.Decides.{nat_tests}
use Rattle.std.specs.Char.{is_ascii_digit}
use Rattle.resb_grammar.specs.Ascii as ascii
use Rattle.resb_grammar.specs.ByteRuns.{is_word, is_number_start}
use Rattle.resb_grammar.specs.Lexical.{Skip, Text, quoted, unquoted, Number, unsigned, plus, minus}
use Rattle.resb_grammar.specs.GroupTypes.{RootType, table_type, no_fallback_type}
use Rattle.resb_grammar.specs.Machine.{Token, Means, State, start, next, Move, begun, went, At}
use Rattle.resb_grammar.proofs.Lex.{Mode, neither, numbers, root_types, mode, Class}
use Rattle.resb_grammar.proofs.Lex.{text_class, number_class, open_class, close_class}
use Rattle.resb_grammar.proofs.Lex.{comma_class, type_class, root_type_class, no_class}
use Rattle.resb_grammar.proofs.Lex.{class_of, class_in, Lex}

class_open : (m : Mode) (b : ℕ) → class_in m b ≡ open_class → b ≡ ascii.left_brace
class_open neither b h = grind (arith, nat_tests)
class_open numbers b h = grind (arith, nat_tests)
class_open root_types b h = grind (arith, nat_tests)

class_close : (m : Mode) (b : ℕ) → class_in m b ≡ close_class → b ≡ ascii.right_brace
class_close neither b h = grind (arith, nat_tests)
class_close numbers b h = grind (arith, nat_tests)
class_close root_types b h = grind (arith, nat_tests)

class_comma : (m : Mode) (b : ℕ) → class_in m b ≡ comma_class → b ≡ ascii.comma
class_comma neither b h = grind (arith, nat_tests)
class_comma numbers b h = grind (arith, nat_tests)
class_comma root_types b h = grind (arith, nat_tests)

-- a type of the root begins with a colon
pub root_colon : (text : List ℕ) (from to : ℕ) (fallback : Bool) → RootType text from to fallback
    → slice_index text from ≡ ascii.colon
root_colon text from to true (table_type w never) = w.colon
root_colon text from to false (no_fallback_type i w n e) = w.colon

if_true : (b : Bool) (k l : Class) → b ≡ true → cond b k l ≡ k
if_true true k l h = refl
if_true false k l h = absurd (false≢true h)

-- a string's first byte, where no number is looked for
pub class_text : (text : List ℕ) (from to : ℕ) (s : List ℕ) → Text text from to s
    → class_of (slice_index text from) ≡ text_class
class_text text from to s (quoted last h q e is) = subst (λ b. class_of b ≡ text_class) (sym h) refl
class_text text from to s (unquoted r some is) =
    if_true _ _ _ (or_right (slice_index text from == ascii.quote) (is_word (slice_index text from))
    (r.each from (omega arith) some))

digit_start : (b : ℕ) → is_ascii_digit b ≡ true → is_number_start b ≡ true
digit_start b h = grind (arith, nat_tests)

started : (b : ℕ) → is_number_start b ≡ true → class_in numbers b ≡ number_class
started b h = ap (λ c. cond c number_class (class_of b)) h

-- a number's first byte, where numbers are looked for
pub class_number : (text : List ℕ) (from to v : ℕ) → Number text from to v
    → class_in numbers (slice_index text from) ≡ number_class
class_number text from to v (unsigned d low) =
    started (slice_index text from)
    (digit_start (slice_index text from) (d.run.each from (omega arith) d.some))
class_number text from to v (plus h d low) = started (slice_index text from) (ap is_number_start h)
class_number text from to v (minus n h d low is) =
    started (slice_index text from) (ap is_number_start h)

colon_class : (b : ℕ) → class_of b ≡ text_class → b ≡ ascii.colon → ⊥
colon_class b h e = type_word (sym (ap class_of e) ∙ h)
  where
    type_word : type_class ≡ text_class → ⊥
    type_word e = cc

-- no string begins with a colon
pub no_text_colon : (text : List ℕ) (from to : ℕ) (s : List ℕ) → Text text from to s
    → slice_index text from ≡ ascii.colon → ⊥
no_text_colon text from to s t e =
    colon_class (slice_index text from) (class_text text from to s t) e

-- nothing is no state
pub none_some : {A : Type 0} (s : State) → None ≡ Some s → A
none_some s e = absurd cc

module _ (text : List ℕ) where
  pub means : (m : Mode) (from to : ℕ) (t : Token) (k : Class)
      → class_in m (slice_index text from) ≡ k → Lex k text from to t → Means text from to t
  means m from to t text_class e (s, h, is) = subst (λ (x : Token). Means text from to x) (sym is) h
  means m from to t number_class e (v, h, is) =
      subst (λ (x : Token). Means text from to x) (sym is) h
  means m from to t open_class e (h, is) =
      subst (λ (x : Token). Means text from to x) (sym is)
      (class_open m (slice_index text from) e, h)
  means m from to t close_class e (h, is) =
      subst (λ (x : Token). Means text from to x) (sym is)
      (class_close m (slice_index text from) e, h)
  means m from to t comma_class e (h, is) =
      subst (λ (x : Token). Means text from to x) (sym is)
      (class_comma m (slice_index text from) e, h)
  means m from to t type_class e (kind, h, is) =
      subst (λ (x : Token). Means text from to x) (sym is) h
  means m from to t root_type_class e (fallback, h, is) =
      subst (λ (x : Token). Means text from to x) (sym is) h
  means m from to t no_class e h = absurd h

  -- what the token of a move says
  pub move_means : (from to : ℕ) (s u : State) → (x : Move text from s to u)
      → Means text from to x.token
  move_means from to s u x = x.means

  -- a path begins behind what is skipped first
  pub begin : (at : ℕ) → Skip text 0 at → At text at start
  begin at skip = record { tokens = 0; path = begun at skip }

  -- one more token
  pub further : (from ends to : ℕ) (s u : State) (t : Token) (k : Class) → At text from s
      → class_in (mode s) (slice_index text from) ≡ k → Lex k text from ends t → next s t ≡ Some u
      → Skip text ends to → At text to u
  further from ends to s u t k at e lex moves after = record {
    tokens = suc at.tokens;
    path = went at.tokens from to s u at.path (record {
      ends = ends;
      move = record { token = t; means = means (mode s) from ends t k e lex; moves = moves };
      after = after;
    });
  }

  -- the class of a known byte
  pub byte_class : (m : Mode) (from b : ℕ) (k : Class) → slice_index text from ≡ b
      → class_in m b ≡ k → class_in m (slice_index text from) ≡ k
  byte_class m from b k h e = ap (class_in m) h ∙ e

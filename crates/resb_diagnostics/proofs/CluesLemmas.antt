-- What is known at a place of a text, from what is known at the place before it.
use Rattle.std.proofs.Common.{◌≡◌, ℕ, ◌+◌, ◌-◌, Bool, List, length, Option, Some, None, refl, cond}
use Rattle.std.proofs.Common.{ap, ◌∙◌}
use Rattle.std.specs.Prelude.{slice_index, slice_get, ◌&&◌}
use Rattle.resb_diagnostics.specs.Braces.{Form, mode_in}
use Rattle.resb_diagnostics.specs.Clues.{is_first, first_behind, indent_at, indent_behind}
use Rattle.resb_diagnostics.specs.Clues.{indents_at}
use Rattle.resb_diagnostics.specs.Clues.{open_behind, stands_out, is_outdent, outdent_in, or_else}
use native.Mathlib.Numerals.{unary_clauses}

pub first_on : (text : List ℕ) (n : ℕ)
    → first_behind (slice_index text n) (is_first text n) ≡ is_first text (n + 1)
first_on text n = simp unary_clauses refl

pub indent_on : (text : List ℕ) (n : ℕ)
    → indent_behind (slice_index text n) (is_first text n) (indent_at text n)
    ≡ indent_at text (n + 1)
indent_on text n = simp unary_clauses refl

-- behind a byte, where these are the indents of open groups before it
pub indents_on : {M : Type 0} (f : Form M) (text : List ℕ) (n i : ℕ) (tokens : Bool)
    (before behind : List ℕ) → tokens ≡ f.has_tokens (mode_in f text n) → i ≡ indent_at text n
    → before ≡ indents_at f text n
    → behind ≡ cond tokens (open_behind (slice_index text n) i before) before
    → behind ≡ indents_at f text (n + 1)
indents_on f text n i tokens before behind t e b h =
    h ∙ ap (λ u. cond u (open_behind (slice_index text n) i before) before) t
    ∙ ap (λ k. cond (f.has_tokens (mode_in f text n)) (open_behind (slice_index text n) k before)
    before) e
    ∙ ap (λ xs. cond (f.has_tokens (mode_in f text n))
    (open_behind (slice_index text n) (indent_at text n) xs) xs) b
    ∙ simp unary_clauses refl

-- the test of a place, by what is known there
pub outdent_by : {M : Type 0} (f : Form M) (text : List ℕ) (n i : ℕ) (tokens first is_one : Bool)
    (indents : List ℕ) → tokens ≡ f.has_tokens (mode_in f text n) → first ≡ is_first text n
    → i ≡ indent_at text n → indents ≡ indents_at f text n
    → is_one ≡ ((tokens && first)
    && stands_out (slice_index text n) i (slice_get indents (length indents - 1)))
    → is_one ≡ is_outdent f text n
outdent_by f text n i tokens first is_one indents t e j b h =
    h ∙ ap (λ u. (u && first)
    && stands_out (slice_index text n) i (slice_get indents (length indents - 1))) t
    ∙ ap (λ u. (f.has_tokens (mode_in f text n) && u)
    && stands_out (slice_index text n) i (slice_get indents (length indents - 1))) e
    ∙ ap (λ k. (f.has_tokens (mode_in f text n) && is_first text n)
    && stands_out (slice_index text n) k (slice_get indents (length indents - 1))) j
    ∙ ap (λ xs. (f.has_tokens (mode_in f text n) && is_first text n)
    && stands_out (slice_index text n) (indent_at text n)
    (slice_get xs (length xs - 1))) b

-- behind a byte, where this was found before it
pub outdent_on : {M : Type 0} (f : Form M) (text : List ℕ) (n : ℕ) (is_one : Bool)
    (before behind : Option ℕ) → is_one ≡ is_outdent f text n → before ≡ outdent_in f text n
    → behind ≡ or_else before (cond is_one (Some n) None) → behind ≡ outdent_in f text (n + 1)
outdent_on f text n is_one before behind t b h =
    h ∙ ap (λ u. or_else before (cond u (Some n) None)) t
    ∙ ap (λ o. or_else o (cond (is_outdent f text n) (Some n) None)) b
    ∙ simp unary_clauses refl

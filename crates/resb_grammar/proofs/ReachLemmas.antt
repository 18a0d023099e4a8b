-- Laws of how far a reading has looked, which both text readers need.
use Rattle.std.proofs.Common.{◌≡◌, ◌≢◌, ℕ, ◌≤◌, List, length, arith, sym, ◌∙◌}
use Rattle.std.specs.Prelude.{slice_index, ◌==◌}
use Rattle.std.proofs.lemmas.Bool.Decides.{nat_tests}
use Rattle.resb_grammar.specs.Ascii as ascii
use Rattle.resb_grammar.specs.Inner.Reach.{reach}
use Rattle.resb_grammar.proofs.Lists.{chosen_at_least, chosen_at_most, chosen_else, chosen_then}

-- a reading has looked at least up to its place
pub reach_low : (text : List ℕ) (at : ℕ) → at ≤ length text → at ≤ reach text at
unfolding reach
reach_low text at l = chosen_at_least (slice_index text at == ascii.slash) (length text) at l

-- and at most up to the text's end
pub reach_high : (text : List ℕ) (at : ℕ) → at ≤ length text → reach text at ≤ length text
unfolding reach
reach_high text at l = chosen_at_most (slice_index text at == ascii.slash) (length text) at l

-- where no slash stands, up to its place
pub reach_here : (text : List ℕ) (at : ℕ) → slice_index text at ≢ ascii.slash
    → reach text at ≡ at
unfolding reach
reach_here text at n =
    chosen_else (slice_index text at == ascii.slash) (length text) at
    (λ e. n (grind (arith, nat_tests, e)))

-- where a slash stands, up to the text's end
pub reach_slash : (text : List ℕ) (at : ℕ) → slice_index text at ≡ ascii.slash
    → reach text at ≡ length text
unfolding reach
reach_slash text at e =
    chosen_then (slice_index text at == ascii.slash) (length text) at (grind (arith, nat_tests, e))

-- where a byte stands that is no slash, a reading has looked up to its place
pub reach_byte : (text : List ℕ) (at b : ℕ) → slice_index text at ≡ b → b ≢ ascii.slash
    → reach text at ≡ at
reach_byte text at b e n = reach_here text at (λ s. n (sym e ∙ s))

-- so it is at a quote
pub reach_quote : (text : List ℕ) (at : ℕ) → slice_index text at ≡ ascii.quote
    → reach text at ≡ at
reach_quote text at e = reach_byte text at ascii.quote e (λ s. omega (arith, s))

-- at a right brace
pub reach_right : (text : List ℕ) (at : ℕ) → slice_index text at ≡ ascii.right_brace
    → reach text at ≡ at
reach_right text at e = reach_byte text at ascii.right_brace e (λ s. omega (arith, s))

-- at a left brace
pub reach_left : (text : List ℕ) (at : ℕ) → slice_index text at ≡ ascii.left_brace
    → reach text at ≡ at
reach_left text at e = reach_byte text at ascii.left_brace e (λ s. omega (arith, s))

-- at a comma
pub reach_comma : (text : List ℕ) (at : ℕ) → slice_index text at ≡ ascii.comma
    → reach text at ≡ at
reach_comma text at e = reach_byte text at ascii.comma e (λ s. omega (arith, s))

-- at a colon
pub reach_colon : (text : List ℕ) (at : ℕ) → slice_index text at ≡ ascii.colon
    → reach text at ≡ at
reach_colon text at e = reach_byte text at ascii.colon e (λ s. omega (arith, s))

-- Laws of how far a reading has looked at a word, at digits and at a sign.
use Rattle.std.proofs.Common.{◌≡◌, ℕ, ◌+◌, ◌<◌, ◌≤◌, true, List, length, arith, ⊎_elim}
use Rattle.std.specs.Prelude.{slice_index}
use Rattle.std.proofs.lemmas.Bool.{cases_eq}
use Rattle.std.proofs.lemmas.Bool.Decides.{nat_tests}
use Rattle.std.specs.Char.{is_ascii_digit}
use Rattle.resb_grammar.specs.Ascii as ascii
use Rattle.resb_grammar.specs.ByteRuns.{Run, is_word}
use Rattle.resb_grammar.specs.Inner.Reach.{reach}
use Rattle.resb_grammar.proofs.ReachLemmas.{reach_low, reach_high, reach_here, reach_byte}
use Rattle.resb_grammar.proofs.ReachLemmas.{reach_left, reach_right, reach_quote, reach_comma}
use Rattle.resb_grammar.proofs.ReachLemmas.{reach_colon, reach_slash}
use Rattle.resb_grammar.proofs.Lists.{nonzero_inside}
use Rattle.resb_text.proofs.QuotaLemmas.{memory_stops}

-- where a word begins, up to its place
pub reach_word : (text : List ℕ) (from to : ℕ) → Run is_word text from to → from < to
    → reach text from ≡ from
reach_word text from to run low =
    let word : is_word (slice_index text from) ≡ true = run.each from (omega arith) low in
    reach_here text from (λ e. grind (arith, nat_tests, e, word))

-- where a digit stands, up to its place
pub reach_digit : (text : List ℕ) (from to : ℕ) → Run is_ascii_digit text from to → from < to
    → reach text from ≡ from
reach_digit text from to run low =
    let digit : is_ascii_digit (slice_index text from) ≡ true = run.each from (omega arith) low in
    reach_here text from (λ e. grind (arith, nat_tests, e, digit))

-- where a run of digits ends that begins at a place, a reading has looked no further than that run
pub reach_digits : (text : List ℕ) (from to : ℕ) → Run is_ascii_digit text from to
    → reach text from + to ≤ length text + from
reach_digits text from to run =
    ⊎_elim (λ same. omega (arith, reach_high text from (omega (arith, run.order, run.fits)), same))
    (λ other. omega (
      arith,
      reach_digit text from to run (omega (arith, other, run.order)),
      run.fits,
    )) (cases_eq from to)

-- where a plus stands, up to its place
pub reach_plus : (text : List ℕ) (at : ℕ) → slice_index text at ≡ ascii.plus → reach text at ≡ at
reach_plus text at e = reach_byte text at ascii.plus e (λ s. omega (arith, s))

-- where a dash stands
pub reach_dash : (text : List ℕ) (at : ℕ) → slice_index text at ≡ ascii.dash → reach text at ≡ at
reach_dash text at e = reach_byte text at ascii.dash e (λ s. omega (arith, s))

-- what is said of a sign
pub ruleset reach_signs = (reach_plus, reach_dash, reach_low, nonzero_inside)

-- what is said of a digit or none
pub ruleset reach_of_digits = (reach_digit, reach_digits)

-- what is said of a comma, a brace or the end
pub ruleset reach_ends = (reach_comma, reach_right, reach_high, nonzero_inside)

-- what is said of a colon or the end
pub ruleset reach_types = (reach_colon, reach_high)

-- what is said of a quote or the end
pub ruleset reach_texts = (reach_quote, reach_high)

-- what is said of a comment or none
pub ruleset reach_comments = (reach_here, reach_slash, nonzero_inside)

-- where a brace, a comma or a colon stands
pub ruleset at_left_brace = (reach_left, nonzero_inside, memory_stops)

pub ruleset at_right_brace = (reach_right, nonzero_inside, memory_stops)

pub ruleset at_comma = (reach_comma, nonzero_inside)

pub ruleset at_colon = (reach_colon, reach_high, nonzero_inside, memory_stops)

-- where a string may stand
pub ruleset at_string = (reach_high, memory_stops)

-- Laws of how far a reading has looked: anywhere, at a word, a string and a number, and of what a
-- step took.
use Rattle.std.proofs.Common.{◌≡◌, ◌≢◌, ℕ, ◌+◌, ◌*◌, ◌<◌, ◌≤◌, Bool, true, false, List, length}
use Rattle.std.proofs.Common.{arith, refl, sym, ◌∙◌, slice_index, ◌==◌, ◌||◌, not, eqb-true, inl, inr}
use Rattle.std.proofs.lemmas.Bool.{false≢true, and_parts}
use Rattle.std.proofs.lemmas.Bool.Decides.{nat_tests}
use Rattle.resb_grammar.specs.Ascii as ascii
use Rattle.resb_grammar.specs.ByteRuns.{Run}
use Rattle.resb_grammar.proofs.Lists.{chosen_at_least, chosen_at_most, chosen_else, chosen_then}
use Rattle.resb_icu_grammar.specs.Bytes.{is_word}
use Rattle.resb_icu_grammar.specs.Unquoted.{Unquoted, UnquotedRow, last_one, one_more, goes_on}
use Rattle.resb_icu_grammar.specs.Unquoted.{begins_comment, is_no_letter}
use Rattle.resb_icu_grammar.specs.Words.{Word, Part, a_row, quoted}
use Rattle.resb_icu_text.specs.Inner.Parts.{Begun}
use Rattle.resb_icu_grammar.specs.Numbers.{Number, a_word, in_quotes, nothing}
use Rattle.resb_icu_grammar.proofs.Lexical.{joined_first}
use Rattle.resb_icu_text.specs.declared.steps.Step.{Step}
use Rattle.resb_icu_text.specs.declared.steps.Step.TheVariants as step
use Rattle.resb_icu_text.specs.Inner.Reach.{reach}
use Rattle.resb_icu_text.specs.declared.steps.Read.{Read}
use Rattle.resb_icu_text.specs.declared.steps.Read.TheVariants as read
use Rattle.resb_icu_text.specs.Inner.Steps.{read_to, spent_reading, stands_at, spent}

-- a comment begins with a slash
pub comment_slash : (text : List ℕ) (at : ℕ) → begins_comment text at ≡ true
    → slice_index text at ≡ ascii.slash
comment_slash text at h = eqb-true (slice_index text at) ascii.slash (and_parts _ _ h).0

-- so none begins where no slash stands
pub no_slash : (text : List ℕ) (at : ℕ) → slice_index text at ≢ ascii.slash
    → begins_comment text at ≡ false
no_slash text at n = by (begins_comment text at) refl
  where
    by : (b : Bool) → begins_comment text at ≡ b → b ≡ false
    by true e = absurd (n (comment_slash text at e))
    by false e = refl

-- a reading has looked at least up to its place
pub reach_low : (text : List ℕ) (at : ℕ) → at ≤ length text → at ≤ reach text at
unfolding reach
reach_low text at l = chosen_at_least (begins_comment text at) (length text) at l

-- and at most up to the text's end
pub reach_high : (text : List ℕ) (at : ℕ) → at ≤ length text → reach text at ≤ length text
unfolding reach
reach_high text at l = chosen_at_most (begins_comment text at) (length text) at l

-- where no comment begins, up to its place
pub reach_here : (text : List ℕ) (at : ℕ) → begins_comment text at ≡ false → reach text at ≡ at
unfolding reach
reach_here text at n =
    chosen_else (begins_comment text at) (length text) at (λ e. false≢true (sym n ∙ e))

-- where one begins, or seems to, up to the text's end
pub reach_comment : (text : List ℕ) (at : ℕ) → begins_comment text at ≡ true
    → reach text at ≡ length text
unfolding reach
reach_comment text at e = chosen_then (begins_comment text at) (length text) at e

-- where a byte stands that is no slash, a reading has looked up to its place
reach_byte : (text : List ℕ) (at b : ℕ) → slice_index text at ≡ b → b ≢ ascii.slash
    → reach text at ≡ at
reach_byte text at b e n = reach_here text at (no_slash text at (λ s. n (sym e ∙ s)))

-- so it is at a quote
pub reach_quote : (text : List ℕ) (at : ℕ) → slice_index text at ≡ ascii.quote
    → reach text at ≡ at
reach_quote text at e = reach_byte text at ascii.quote e (λ s. omega (arith, s))

-- at a right brace
pub reach_right : (text : List ℕ) (at : ℕ) → slice_index text at ≡ ascii.right_brace
    → reach text at ≡ at
reach_right text at e = reach_byte text at ascii.right_brace e (λ s. omega (arith, s))

-- at a left brace
pub reach_left : (text : List ℕ) (at : ℕ) → slice_index text at ≡ ascii.left_brace
    → reach text at ≡ at
reach_left text at e = reach_byte text at ascii.left_brace e (λ s. omega (arith, s))

-- at a comma
pub reach_comma : (text : List ℕ) (at : ℕ) → slice_index text at ≡ ascii.comma
    → reach text at ≡ at
reach_comma text at e = reach_byte text at ascii.comma e (λ s. omega (arith, s))

-- at a colon
pub reach_colon : (text : List ℕ) (at : ℕ) → slice_index text at ≡ ascii.colon
    → reach text at ≡ at
reach_colon text at e = reach_byte text at ascii.colon e (λ s. omega (arith, s))

-- how far a reading has looked that stands at a place, at any and by the byte there
pub ruleset reached =
    (reach_low, reach_high, reach_quote, reach_right, reach_left, reach_comma, reach_colon)

slash_no_word : (b : ℕ) → b ≡ ascii.slash → is_word b ≡ true → ⊥
slash_no_word b e h = grind (arith, nat_tests, e, h)

-- where a word ends that begins at a place, a reading has looked no further than that word
pub reach_word : (text : List ℕ) (from to : ℕ) → Run is_word text from to
    → reach text from + to ≤ length text + from
reach_word text from to run = pick (begins_comment text from) (from == to) refl refl
  where
    pick : (b t : Bool) → begins_comment text from ≡ b → (from == to) ≡ t
        → reach text from + to ≤ length text + from
    pick false t h e = omega (arith, reach_here text from h, run.fits)
    pick true true h e =
        let same : from ≡ to = grind (arith, nat_tests, e) in
        omega (arith, reach_comment text from h, same)
    pick true false h e =
        let other : from ≢ to = grind (arith, nat_tests, e) in
        absurd (slash_no_word _ (comment_slash text from h)
        (run.each from (omega arith) (omega (arith, other, run.order))))

-- and where it has some byte, up to its place
pub reach_at_word : (text : List ℕ) (from to : ℕ) (s : List ℕ) → Word text from to s
    → reach text from ≡ from
reach_at_word text from to s w =
    reach_here text from
    (no_slash text from (λ e. slash_no_word _ e (w.run.each from (omega arith) w.some)))

-- where an unquoted string goes on, no comment begins
pub no_comment_on : (text : List ℕ) (at : ℕ) → goes_on text at ≡ true
    → begins_comment text at ≡ false
no_comment_on text at h = by (begins_comment text at) (and_parts _ _ h).1
  where
    by : (b : Bool) → not (b || is_no_letter text at) ≡ true → b ≡ false
    by true e = absurd (false≢true e)
    by false e = refl

-- where one begins, a reading has looked up to its place
pub reach_unquoted : (text : List ℕ) (from to : ℕ) (s : List ℕ) → Unquoted text from to s
    → reach text from ≡ from
reach_unquoted text from to s w =
    reach_here text from (no_comment_on text from (w.each from (omega arith) w.some))

-- where a row of unquoted strings begins, a reading has looked up to its place
pub reach_row : (text : List ℕ) (from to : ℕ) (s : List ℕ) → UnquotedRow text from to s
    → reach text from ≡ from
reach_row text from to s (last_one _ _ n _ p k h) =
    reach_unquoted text from to s p
reach_row text from to s (one_more _ m n _ us vs p w k r) =
    reach_unquoted text from m us p

-- where a part of a string begins, a reading has looked up to its place
pub reach_part : (text : List ℕ) (from to : ℕ) (s : List ℕ) → Part text from to s
    → reach text from ≡ from
reach_part text from to s (a_row r) = reach_row text from to s r
reach_part text from to s (quoted j) = reach_quote text from (joined_first text from to s j)

-- and where one seems to
pub reach_begun : (text : List ℕ) (at : ℕ) → Begun text at → reach text at ≡ at
reach_begun text at (inl q) = reach_quote text at q
reach_begun text at (inr h) = reach_here text at (no_comment_on text at (and_parts _ _ h).1)

-- and where a number begins
pub reach_number : (text : List ℕ) (from to v : ℕ) → from < to → Number text from to v
    → reach text from ≡ from
reach_number text from to v low n = by n
  where
    by : {value : ℕ} → Number text from to value → reach text from ≡ from
    by (a_word _ r s) =
        reach_here text from
        (no_slash text from (λ e. slash_no_word _ e (r.each from (omega arith) low)))
    by (in_quotes last _ h r s q e) = reach_quote text from h
    by (nothing h q e) = reach_quote text from h

-- a reading that stands in the text has looked no further than the text goes
pub spent_most : {X : Type 0} (text : List ℕ) (s : Step X) → stands_at s ≤ length text
    → spent text s ≤ 8 * length text + 3
spent_most text (step.Members members last at) l = omega (arith, reach_high text at l)
spent_most text (step.Entries entries at) l = omega (arith, reach_high text at l)
spent_most text (step.Group w at) l = omega (arith, reach_high text at l)
spent_most text (step.Ended x at) l = omega (arith, l)

-- nor one that has read what it did
pub reading_most : {X : Type 0} (text : List ℕ) (r : Read X) → read_to r ≤ length text
    → spent_reading text r ≤ 8 * length text + 3
reading_most text (read.Step s) l = spent_most text s l
reading_most text (read.Member members r at) l = omega (arith, reach_high text at l)
reading_most text (read.Array members at) l = omega (arith, l)
reading_most text (read.Table entries at next) l = omega (arith, l)
reading_most text (read.Leaf r at) l = omega (arith, l)
reading_most text (read.Root x at) l = omega (arith, l)

-- and where a number begins
pub ruleset reached_by_numbers = (reach_low, reach_high, reach_right, reach_comma, reach_number)

-- and by what a step has read
pub ruleset reached_by_steps = (reach_low, reach_high, reading_most, spent_most)

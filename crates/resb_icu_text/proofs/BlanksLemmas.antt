-- Laws of comments and blanks, as the reader's functions use them.
use Rattle.std.proofs.Common.{◌≡◌, ℕ, zero, suc, ◌+◌, ◌-◌, List, arith, subst, sym, ◌∙◌, Bool}
use Rattle.std.proofs.Common.{true, false, refl, ◌⊎◌, inl, inr, ◌==◌, ◌||◌}
use Rattle.std.specs.Prelude.{slice_index}
use Rattle.std.proofs.lemmas.Bool.{false≢true, and_from}
use Rattle.std.proofs.lemmas.Bool.Decides.{nat_tests}
use Rattle.resb_grammar.specs.Ascii as ascii
use Rattle.resb_grammar.specs.ByteRuns.{is_white, Each, Run}
use Rattle.resb_grammar.specs.Lexical.{FirstCloser}
use Rattle.resb_icu_grammar.specs.Blanks.{LineRest, Comment, line, block, Blanks, none, white}
use Rattle.resb_icu_grammar.specs.Blanks.{comment, Skip}
use Rattle.resb_icu_grammar.specs.Unquoted.{begins_comment}

pub no_line_comment : (text : List ℕ) (from : ℕ) → slice_index text (from + 1) ≡ ascii.slash
    → ((to : ℕ) → LineRest text (from + 2) to → ⊥) → (to : ℕ) → Comment text from to → ⊥
no_line_comment text from e never to (line h h' rest) = never to rest
no_line_comment text from e never to (block at h h' first is) = omega arith

pub no_block_comment : (text : List ℕ) (from : ℕ) → slice_index text (from + 1) ≡ ascii.star
    → ((at : ℕ) → FirstCloser text (from + 2 + 1) at → ⊥) → (to : ℕ) → Comment text from to → ⊥
no_block_comment text from e never to (line h h' rest) = omega arith
no_block_comment text from e never to (block at h h' first is) =
    never at (subst (λ n. FirstCloser text n at) (omega arith) first)

pub block_comment : (text : List ℕ) (from to : ℕ) → slice_index text from ≡ ascii.slash
    → slice_index text (from + 1) ≡ ascii.star
    → (at : ℕ) × FirstCloser text (from + 2 + 1) at × (to ≡ at + 2) → Comment text from to
block_comment text from to h h' f =
    block f.0 h h' (subst (λ n. FirstCloser text n f.0) (omega arith) f.1) f.2

pub no_comment_at : (text : List ℕ) (from : ℕ) → begins_comment text from ≡ false → (to : ℕ)
    → Comment text from to → ⊥
no_comment_at text from n to c = false≢true (sym n ∙ begins_there c)
  where
    is : (b a : ℕ) → b ≡ a → (b == a) ≡ true
    is b a e = grind (arith, nat_tests, e)

    second : (b c : Bool) → (b ≡ true) ⊎ (c ≡ true) → (b || c) ≡ true
    second true c e = refl
    second false c (inl e) = absurd (false≢true e)
    second false c (inr e) = e

    begins_there : Comment text from to → begins_comment text from ≡ true
    begins_there (line h h' rest) =
        and_from _ _ (is _ _ h) (second _ _ (inl (is _ _ h')))
    begins_there (block at h h' first is') =
        and_from _ _ (is _ _ h) (second _ _ (inr (is _ _ h')))

-- a run of white characters before blanks
blanks_run : (text : List ℕ) (n at to : ℕ) → Each is_white text at (at + n)
    → Blanks text (at + n) to → Blanks text at to
blanks_run text zero at to each rest =
    let e : at + 0 ≡ at = omega arith in subst (λ i. Blanks text i to) e rest
blanks_run text (suc n) at to each rest =
    let e : at + suc n ≡ at + 1 + n = omega arith in
    white at to (each at (omega arith) (omega arith))
    (blanks_run text n (at + 1) to (λ k low high. each k (omega (arith, low))
    (omega (arith, high))) (subst (λ i. Blanks text i to) e rest))

-- a run of white characters more
pub white_more : (text : List ℕ) (from at next : ℕ) → Run is_white text at next
    → ((to : ℕ) → Blanks text at to → Blanks text from to) → (to : ℕ) → Blanks text next to
    → Blanks text from to
white_more text from at next run so_far to rest =
    let e : at + (next - at) ≡ next = omega (arith, run.order) in
    so_far to (blanks_run text (next - at) at to
    (subst (λ i. Each is_white text at i) (sym e) run.each)
    (subst (λ i. Blanks text i to) (sym e) rest))

-- one more comment
pub comment_more : (text : List ℕ) (from at next : ℕ) → Comment text at next
    → ((to : ℕ) → Blanks text at to → Blanks text from to) → (to : ℕ) → Blanks text next to
    → Blanks text from to
comment_more text from at next h so_far to rest = so_far to (comment at next to h rest)

-- the end of the blanks
pub skip_ends : (text : List ℕ) (from at next : ℕ) → Run is_white text at next
    → ((to : ℕ) → Comment text next to → ⊥)
    → ((to : ℕ) → Blanks text at to → Blanks text from to) → Skip text from next
skip_ends text from at next run never so_far = record {
  blanks = white_more text from at next run so_far next (none next);
  solid = record { no_white = run.longest; no_comment = never };
}

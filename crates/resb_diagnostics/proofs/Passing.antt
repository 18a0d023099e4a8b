-- Passing bytes one after another: what holds at a place holds further on, and what two passings
-- tell, one after the other.
use Rattle.std.proofs.Common.{◌≡◌, ◌∙◌, ℕ, zero, suc, ◌+◌, ◌-◌, ◌<◌, ◌≤◌, true, false, ◌&&◌}
use Rattle.std.proofs.Common.{◌==◌, List, [], ◌++◌, length, refl, sym, ap, subst, arith}
use Rattle.std.proofs.Common.{Option, None, append_assoc, append-nil}
use Rattle.std.specs.Prelude.{slice_index, not, if◌then◌else◌, ◌∷◌}
use Rattle.std.proofs.lemmas.Bool.{false≢true}
use Rattle.resb_diagnostics.specs.Braces.{mode_at, mode_behind, has_tokens, backslash}
use Rattle.resb_diagnostics.specs.Pieces.{TextPiece, piece_at, piece_in, token_at, word_start}
use Rattle.resb_diagnostics.specs.Groups.{groups_at, groups_behind}
use Rattle.resb_diagnostics.specs.Warnings.{is_quoted, has_backslash, of_backslash, of_end, warned}
use Rattle.resb_diagnostics.specs.Warnings.{warning_at}
use Rattle.resb_diagnostics.specs.Inner.Tokens.{IsBetween, Passes, GoesOn}
use Rattle.resb_diagnostics.specs.declared.braces.Mode.{Mode}
use Rattle.resb_diagnostics.specs.declared.braces.Mode.TheVariants as modes
use Rattle.resb_diagnostics.specs.declared.warning.Warning.{Warning}
use Rattle.resb_diagnostics.specs.declared.warning.Reason.TheVariants as reason
use Rattle.resb_grammar.specs.ByteRuns.{is_word}

-- what holds at a place and passes each byte up to another holds there
pub up : (P : ℕ → Type 0) (from to : ℕ) → P from → from ≤ to
    → ((k : ℕ) → from ≤ k → k < to → P k → P (suc k)) → P to
up P from to start order step = by (to - from) to (omega arith) (omega arith)
  where
    by : (n at : ℕ) → at ≡ from + n → at ≤ to → P at
    by zero at e le = subst P (omega arith) start
    by (suc n) at e le =
        let same : suc (from + n) ≡ at = omega arith in
        subst P same (step (from + n) (omega arith) (omega arith)
        (by n (from + n) refl (omega arith)))

-- nothing is passed
pub still : (text : List ℕ) (at : ℕ) → at ≤ length text → Passes text at at [] None
still text at fits = record {
  order = omega arith;
  fits = fits;
  groups = refl;
  found = sym (append-nil (warned text at));
}

-- a byte is passed
pub one : (text : List ℕ) (n : ℕ) → n < length text
    → Passes text n (suc n) (of_backslash text n) (piece_at text n)
one text n fits = record {
  order = omega arith;
  fits = omega (arith, fits);
  groups = refl;
  found = refl;
}

-- a byte that ends this piece, if one, and tells these warnings
pub one_of : (text : List ℕ) (n : ℕ) (told : List Warning) (p : Option TextPiece)
    → n < length text → of_backslash text n ≡ told → piece_at text n ≡ p
    → Passes text n (suc n) told p
one_of text n told p fits t e =
    subst (λ q. Passes text n (suc n) told q) e
    (subst (λ l. Passes text n (suc n) l (piece_at text n)) t (one text n fits))

-- what is passed without a piece, and then more
pub both : (text : List ℕ) (a b c : ℕ) (t u : List Warning) (p : Option TextPiece)
    → Passes text a b t None → Passes text b c u p → Passes text a c (t ++ u) p
both text a b c t u p h k = record {
  order = omega (arith, h.order, k.order);
  fits = k.fits;
  groups = k.groups ∙ ap (groups_behind p) h.groups;
  found = k.found
      ∙ ap (λ l. l ++ (u ++ of_end p (groups_at text b)))
      (h.found ∙ ap (λ l. warned text a ++ l) (append-nil t))
      ∙ append_assoc (warned text a) t (u ++ of_end p (groups_at text b))
      ∙ ap (λ l. warned text a ++ l) (sym (append_assoc t u (of_end p (groups_at text b))))
      ∙ ap (λ g. warned text a ++ ((t ++ u) ++ of_end p g)) h.groups;
}

-- what is passed with warnings, and then a piece without any
pub then_piece : (text : List ℕ) (a b c : ℕ) (t : List Warning) (p : Option TextPiece)
    → Passes text a b t None → Passes text b c [] p → Passes text a c t p
then_piece text a b c t p h k =
    subst (λ l. Passes text a c l p) (append-nil t) (both text a b c t [] p h k)

-- outside of quotes no backslash is told of
pub no_backslash : (text : List ℕ) (n : ℕ) → is_quoted (mode_at text n) ≡ false
    → of_backslash text n ≡ []
no_backslash text n e =
    ap (λ q. if q && slice_index text n == backslash && not (has_backslash text n)
    then warning_at reason.Backslash n ∷ [] else []) e

unquoted : (m : Mode) → has_tokens m ≡ true → is_quoted m ≡ false
unquoted modes.Tokens h = refl
unquoted modes.Slash h = refl
unquoted modes.Quotes h = absurd (false≢true h)
unquoted modes.LineComment h = refl
unquoted modes.BlockComment h = refl
unquoted modes.Star h = refl

piece_of_token : (m : Mode) (text : List ℕ) (n : ℕ) → has_tokens m ≡ true
    → piece_in m text n ≡ token_at text n (slice_index text n)
piece_of_token modes.Tokens text n h = refl
piece_of_token modes.Slash text n h = refl
piece_of_token modes.Quotes text n h = absurd (false≢true h)
piece_of_token modes.LineComment text n h = absurd (false≢true h)
piece_of_token modes.BlockComment text n h = absurd (false≢true h)
piece_of_token modes.Star text n h = absurd (false≢true h)

-- a byte among tokens ends the piece that it ends as a token, and tells nothing
pub one_token : (text : List ℕ) (n : ℕ) (p : Option TextPiece) → n < length text
    → has_tokens (mode_at text n) ≡ true → token_at text n (slice_index text n) ≡ p
    → Passes text n (suc n) [] p
one_token text n p fits h e =
    one_of text n [] p fits (no_backslash text n (unquoted (mode_at text n) h))
    (piece_of_token (mode_at text n) text n h ∙ e)

-- a byte in a mode that has no pieces
pub one_silent : (text : List ℕ) (n : ℕ) (m : Mode) → n < length text → mode_at text n ≡ m
    → piece_in m text n ≡ None → is_quoted m ≡ false → Passes text n (suc n) [] None
one_silent text n m fits e none plain =
    one_of text n [] None fits (no_backslash text n (ap is_quoted e ∙ plain))
    (ap (λ k. piece_in k text n) e ∙ none)

-- one byte more, without a piece
pub further : (text : List ℕ) (from k : ℕ) (told : List Warning) → Passes text from k told None
    → Passes text k (suc k) [] None → Passes text from (suc k) told None
further text from k told h here = then_piece text from k (suc k) told None h here

-- behind a byte that is no word character, and behind which tokens stand
pub between_behind : (text : List ℕ) (k : ℕ) → mode_at text (suc k) ≡ modes.Tokens
    → is_word (slice_index text k) ≡ false → IsBetween text (suc k)
between_behind text k e other = record {
  among = record {
    tokens = ap has_tokens e;
    next = ap (λ m. mode_behind m (slice_index text (suc k))) e;
  };
  word = λ w. ap (λ b. if b then word_start text k else suc k) other;
}

-- what stands behind something quiet
pub goes_behind : (text : List ℕ) (a b c : ℕ) (t : List Warning) (p : Option TextPiece)
    → Passes text a b [] None → GoesOn text b c t p → GoesOn text a c t p
goes_behind text a b c t p h k = record {
  more = omega (arith, h.order, k.more);
  passes = both text a b c [] t p h k.passes;
  between = k.between;
}

-- nothing more
pub quiet_end : (text : List ℕ) (from at : ℕ) → from < at → length text ≤ at
    → Passes text from at [] None → GoesOn text from at [] None
quiet_end text from at more fits h =
    record { more = more; passes = h; between = λ lt. absurd (omega (arith, lt)) }

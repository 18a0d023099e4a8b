-- Strings in quotes, and their first backslashes.
use Rattle.std.proofs.Common.{◌≡◌, ◌∙◌, ℕ, suc, ◌+◌, ◌<◌, ◌≤◌, Bool, true, false}
use Rattle.std.proofs.Common.{◌==◌, List, [], ◌∷◌, ◌++◌, length, refl, sym, ap, subst, arith}
use Rattle.std.proofs.Common.{Option, Some, None, ◌&&◌, ◌||◌}
use Rattle.std.specs.Prelude.{slice_index, slice_range, if◌then◌else◌, not}
use Rattle.resb_diagnostics.specs.Braces.{mode_at, mode_behind, behind_token, backslash}
use Rattle.resb_diagnostics.specs.Pieces.{a_string, bytes_placed, piece_at, piece_in, token_at}
use Rattle.resb_diagnostics.specs.Pieces.{quote_before, quoted_at}
use Rattle.resb_diagnostics.specs.Warnings.{is_quoted, has_backslash, of_backslash, warning_at}
use Rattle.resb_diagnostics.specs.Inner.Tokens.{NoByte, IsFirst, IsFound, IsBetween, Passes, GoesOn}
use Rattle.resb_diagnostics.specs.Inner.Tokens.{of_some_backslash, IsToken}
use Rattle.resb_diagnostics.specs.Inner.Looks.{text_piece_of}
use Rattle.resb_diagnostics.specs.declared.text_pieces.Token.{Token}
use Rattle.std.specs.Option.{option_map}
use Rattle.resb_diagnostics.specs.declared.braces.Mode.TheVariants as modes
use Rattle.resb_diagnostics.specs.declared.warning.Reason.TheVariants as reason
use Rattle.resb_diagnostics.specs.declared.warning.Warning.{Warning}
use Rattle.resb_grammar.specs.ByteRuns.{is_word}
use Rattle.resb_grammar.specs.Ascii.{quote}
use Rattle.resb_diagnostics.proofs.Passing.{up, one_of, one_token, then_piece, both, between_behind}

-- in a string that began at a place, whose backslash was seen or not
record InString (text : List ℕ) (from k : ℕ) (seen : Bool) (told : List Warning) : Type 0 where
  pub mode : mode_at text k ≡ modes.Quotes
  pub opened : quote_before text k ≡ from
  pub backslash : has_backslash text k ≡ seen
  pub passes : Passes text from k told None

-- what is told of a byte in quotes
told_of : (text : List ℕ) (k : ℕ) (is seen : Bool) → mode_at text k ≡ modes.Quotes
    → (slice_index text k == backslash) ≡ is → has_backslash text k ≡ seen
    → of_backslash text k
    ≡ (if true && is && not seen then warning_at reason.Backslash k ∷ [] else [])
told_of text k is seen m e s =
    ap (λ q. if is_quoted q && slice_index text k == backslash && not (has_backslash text k)
    then warning_at reason.Backslash k ∷ [] else []) m
    ∙ ap (λ b. if true && b && not (has_backslash text k)
    then warning_at reason.Backslash k ∷ [] else []) e
    ∙ ap (λ h. if true && is && not h then warning_at reason.Backslash k ∷ [] else []) s

opens : (text : List ℕ) (at : ℕ) → at < length text → IsBetween text at
    → slice_index text at ≡ quote → InString text at (suc at) false []
opens text at fits between e = record {
  mode = between.among.next ∙ ap behind_token e;
  opened = ap (λ b. if b == quote then at else quote_before text at) e;
  backslash = ap (λ b. if b == quote then false else (b == backslash || has_backslash text at)) e;
  passes = one_token text at None fits between.among.tokens (ap (token_at text at) e);
}

-- a byte more, that is no quote, with what is told of it
module _ (text : List ℕ) (from k : ℕ) (seen is : Bool) (told more : List Warning)
    (fits : k < length text) (so_far : InString text from k seen told)
    (not_so : (slice_index text k == quote) ≡ false) (this : (slice_index text k == backslash) ≡ is)
    (tells : (if true && is && not seen then warning_at reason.Backslash k ∷ [] else []) ≡ more)
  where
    goes_on : InString text from (suc k) (is || seen) (told ++ more)
    goes_on = record {
      mode = ap (λ m. mode_behind m (slice_index text k)) so_far.mode
          ∙ ap (λ q. if q then modes.Tokens else modes.Quotes) not_so;
      opened = ap (λ q. if q then k else quote_before text k) not_so ∙ so_far.opened;
      backslash = ap (λ q. if q then false
          else (slice_index text k == backslash || has_backslash text k)) not_so
          ∙ ap (λ b. b || has_backslash text k) this ∙ ap (λ h. is || h) so_far.backslash;
      passes = both text from k (suc k) told more None so_far.passes
          (one_of text k more None fits
          (told_of text k is seen so_far.mode this so_far.backslash ∙ tells)
          (ap (λ m. piece_in m text k) so_far.mode
          ∙ ap (λ q. if q then Some (quoted_at text k) else None) not_so));
    }

plain : (text : List ℕ) (from k : ℕ) → k < length text → InString text from k false []
    → (slice_index text k == quote) ≡ false → (slice_index text k == backslash) ≡ false
    → InString text from (suc k) false []
plain text from k fits so_far not_so this =
    goes_on text from k false false [] [] fits so_far not_so this refl

behind_seen : (text : List ℕ) (from k : ℕ) (w : Warning) (is : Bool) → k < length text
    → InString text from k true (w ∷ []) → (slice_index text k == quote) ≡ false
    → (slice_index text k == backslash) ≡ is → InString text from (suc k) true (w ∷ [])
behind_seen text from k w true fits so_far not_so this =
    goes_on text from k true true (w ∷ []) [] fits so_far not_so this refl
behind_seen text from k w false fits so_far not_so this =
    goes_on text from k true false (w ∷ []) [] fits so_far not_so this refl

-- the string up to a place before which no quote closes it
inside : (text : List ℕ) (at to : ℕ) (o : Option ℕ) → to ≤ length text → at < to
    → IsBetween text at → slice_index text at ≡ quote → NoByte quote text (at + 1) to
    → IsFound backslash text (at + 1) to o
    → (seen : Bool) × InString text at to seen (of_some_backslash o)
inside text at to None fits more between e not_so none = (
  false,
  up (λ k. InString text at k false []) (suc at) to
      (opens text at (omega arith) between e) (omega arith)
      (λ k low high so_far. plain text at k (omega arith) so_far (not_so k (omega arith) high)
      (none k (omega arith) high)),
)
inside text at to (Some b) fits more between e not_so first =
    let w = warning_at reason.Backslash b in
    let before : InString text at b false [] =
    up (λ k. InString text at k false []) (suc at) b
    (opens text at (omega arith) between e) (omega (arith, first.order))
    (λ k low high so_far. plain text at k (omega (arith, first.fits)) so_far
    (not_so k (omega arith) (omega (arith, first.fits))) (first.none k (omega arith) high)) in
    let behind : InString text at (suc b) true (w ∷ []) =
    goes_on text at b false true [] (w ∷ []) (omega (arith, first.fits)) before
    (not_so b first.order first.fits) (ap (λ c. c == backslash) first.stands) refl in (
      true,
      up (λ k. InString text at k true (w ∷ [])) (suc b) to behind (omega (arith, first.fits))
          (λ k low high so_far. behind_seen text at k w (slice_index text k == backslash)
          (omega arith) so_far (not_so k (omega (arith, first.order)) high) refl),
    )

-- a string that doesn't end
pub open_string : (text : List ℕ) (at : ℕ) (o : Option ℕ) → at < length text
    → IsBetween text at → slice_index text at ≡ quote → NoByte quote text (at + 1) (length text)
    → IsFound backslash text (at + 1) (length text) o
    → GoesOn text at (length text) (of_some_backslash o) None
open_string text at o fits between e not_so found =
    let (seen, is) = inside text at (length text) o (omega arith) fits between e not_so found in
    record { more = fits; passes = is.passes; between = λ lt. absurd (omega (arith, lt)) }

-- a string that ends at a quote
pub whole_string : (text : List ℕ) (at to : ℕ) (o : Option ℕ) → IsBetween text at
    → slice_index text at ≡ quote → IsFirst quote text (at + 1) (length text) to
    → IsFound backslash text (at + 1) to o
    → GoesOn text at (to + 1) (of_some_backslash o)
    (Some (a_string (bytes_placed (slice_range text (at + 1) to) at)))
whole_string text at to o between e first found =
    let (seen, is) = inside text at to o (omega (arith, first.fits)) (omega (arith, first.order))
    between e first.none found in
    let p = Some (a_string (bytes_placed (slice_range text (at + 1) to) at)) in
    let piece : piece_at text to ≡ p =
    ap (λ m. piece_in m text to) is.mode
    ∙ ap (λ b. if b == quote then Some (quoted_at text to) else None) first.stands
    ∙ ap (λ q. Some (a_string (bytes_placed (slice_range text (q + 1) to) q))) is.opened in
    let quiet : of_backslash text to ≡ [] =
    told_of text to false seen is.mode (ap (λ b. b == backslash) first.stands) is.backslash in
    let mode : mode_at text (suc to) ≡ modes.Tokens =
    ap (λ m. mode_behind m (slice_index text to)) is.mode
    ∙ ap (λ b. mode_behind modes.Quotes b) first.stands in
    let next : suc to ≡ to + 1 = omega arith in
    subst (λ n. GoesOn text at n (of_some_backslash o) p) next
    (record {
      more = omega (arith, first.order);
      passes = then_piece text at to (suc to) (of_some_backslash o) p is.passes
          (one_of text to [] p first.fits quiet piece);
      between = λ _. between_behind text to mode (ap is_word first.stands);
    })

-- a token that takes what is left of the text
pub rest_told : (text : List ℕ) (at : ℕ) (o : Option ℕ) (t : Token) → t.piece ≡ None
    → t.backslash ≡ o → t.end ≡ length text
    → GoesOn text at (length text) (of_some_backslash o) None → IsToken text at t
rest_told text at o t piece told end h =
    subst (λ q. GoesOn text at t.end (of_some_backslash t.backslash) (option_map text_piece_of q))
    (sym piece)
    (subst (λ n. GoesOn text at n (of_some_backslash t.backslash) None) (sym end)
    (subst (λ q. GoesOn text at (length text) (of_some_backslash q) None) (sym told) h))

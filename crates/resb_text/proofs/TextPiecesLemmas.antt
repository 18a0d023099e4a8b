-- Where a piece of a text is cut out, characters begin and end.
use Rattle.std.proofs.Common.{◌≡◌, ℕ, ◌+◌, ◌-◌, ◌<◌, true, List, get_or, arith, subst, ⊎_elim}
use Rattle.std.proofs.lemmas.Str.{IsCharBoundary-before_ascii, IsCharBoundary-after_ascii}
use Rattle.std.specs.Str.{IsUtf8, IsCharBoundary}
use Rattle.resb_grammar.specs.ByteRuns.{is_word}
use Rattle.resb_text.specs.Inner.TextPieces.{IsTextPiece, IsWordPiece, IsQuotedPiece}
use Rattle.resb_grammar.proofs.ByteRunsLemmas.{word_ascii, word_some}
use Rattle.resb_grammar.proofs.Lists.{nonzero_inside}

-- a place after an ASCII byte
after_byte : (text : List ℕ) (from : ℕ) → IsUtf8 text → 0 < from → 0 < get_or text (from - 1) 0
    → get_or text (from - 1) 0 < 128 → IsCharBoundary text from
after_byte text from u p h l =
    let e : from - 1 + 1 ≡ from = omega arith in
    subst (λ i. IsCharBoundary text i) e
    (IsCharBoundary-after_ascii text (from - 1) u (nonzero_inside text (from - 1) h) l)

-- a piece of a text begins where a character does
pub start_boundary : (text : List ℕ) (from to : ℕ) → IsUtf8 text → IsTextPiece text from to
    → IsCharBoundary text from
start_boundary text from to u = ⊎_elim
    (λ (w : IsWordPiece text from to).
    let h : is_word (get_or text from 0) ≡ true = w.each from (omega arith) w.order in
    IsCharBoundary-before_ascii text from (omega arith) (word_ascii _ h))
    (λ (q : IsQuotedPiece text from to).
    after_byte text from u q.order (omega arith) (omega arith))

-- and ends where one ends
pub end_boundary : (text : List ℕ) (from to : ℕ) → IsUtf8 text → IsTextPiece text from to
    → IsCharBoundary text to
end_boundary text from to u = ⊎_elim
    (λ (w : IsWordPiece text from to).
    let h : is_word (get_or text (to - 1) 0) ≡ true = w.each (to - 1) (omega arith) (omega arith) in
    after_byte text to u (omega arith) (word_some _ h) (word_ascii _ h))
    (λ (q : IsQuotedPiece text from to).
    IsCharBoundary-before_ascii text to (nonzero_inside text to (omega arith)) (omega arith))

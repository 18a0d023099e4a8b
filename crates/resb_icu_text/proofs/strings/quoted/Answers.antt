use Rattle.std.proofs.Common.{◌≡◌, ◌≢◌, ◌+◌, ◌⊎◌, inl, inr, arith, sym, ◌∙◌, subst, [], slice_index}
use Rattle.std.proofs.lemmas.Str.{IsCharBoundary-before_ascii, IsCharBoundary-after_ascii}
use Rattle.resb_grammar.specs.Ascii as ascii
use Rattle.resb_icu_text.proofs.ReachLemmas.{reach_quote}
use Rattle.resb_icu_grammar.specs.Faults.{later_piece}
use Rattle.resb_icu_grammar.specs.Pieces.{QuotedBytes, one_more}
use Rattle.resb_icu_grammar.specs.Words.{HasNoEscape}
use Rattle.resb_icu_text.proofs.LengthLemmas.{inside_short}
use Rattle.resb_icu_text.proofs.PartsLemmas.{walked_none, walked_more}
use Rattle.resb_icu_text.proofs.PiecesLemmas.{inside_closes}
use Rattle.resb_icu_text.proofs.QuotaLemmas.{match_fails}
use Rattle.resb_icu_text.proofs.StringsLemmas.{piece_of, piece_fault, piece_found, pieces_found}
use Rattle.resb_icu_text.proofs.strings.quoted.Goals.{else-at-from-via-then-at-from+else-piece}
use Rattle.resb_icu_text.proofs.strings.quoted.Goals.{else-at-from-via-else-at-from}
use Rattle.resb_icu_text.proofs.strings.quoted.Goals as goal

pub pieces-init : goal.pieces-init
pieces-init c = record {
  order = omega arith;
  fits = c.requires.within;
  opens = c.requires.opens;
  short = omega arith;
  walked = walked_none;
  fault = λ to x f. f;
  cost = omega arith;
}

pub returns-in_err-piece-clause-reads : goal.returns-in_err-piece-clause-reads
returns-in_err-piece-clause-reads c =
    match_fails _ _ _ c.from_residual.ensures.1 (c.pieces.invariant.fault _ _
    (piece_fault _ _ _ _ c.pieces.invariant.opens c.in_err-piece.ensures.reads))

pub pieces-preserved : goal.pieces-preserved
pieces-preserved c =
    let text = c.args.text.now in
    let q : slice_index text c.skip-next.result ≡ ascii.quote =
    sym c.byte.ensures.byte ∙ c.if-byte-eq34.true in
    let h = c.in_ok-piece.ensures.reads in
    let piece = piece_of text _ _ _ c.pieces.invariant.opens h.stands in
    let blanks = c.skip-next.ensures.skip in
    record {
      order = omega (arith, c.pieces.invariant.order, h.order, c.skip-next.ensures.order);
      fits = c.byte.ensures.inside (omega (arith, c.if-byte-eq34.true));
      opens = q;
      short = omega (
        arith,
        c.pieces.invariant.short,
        h.counted,
        inside_short _ _ _ _ h.stands,
        c.skip-next.ensures.order,
      );
      walked = walked_more h.said [] piece
          (λ to later j. one_more _ _ _ to h.said later piece blanks j)
          (omega (arith, h.counted)) c.skip-next.ensures.order
          (omega (arith, h.order, c.skip-next.ensures.order)) c.pieces.invariant.walked;
      fault = λ to x f. c.pieces.invariant.fault to x
          (later_piece _ _ _ to h.said x piece blanks f);
      cost = omega (
        arith,
        c.pieces.invariant.cost,
        c.in_ok-piece.ensures.cost,
        c.skip-next.ensures.cost,
        h.order,
        reach_quote text c.skip-next.result q,
      );
    }

pub range-requires-clause-start_boundary : goal.range-requires-clause-start_boundary
range-requires-clause-start_boundary c =
    λ _. IsCharBoundary-after_ascii c.args.text.now c.args.from c.utf8.text c.requires.within
    (omega (arith, c.requires.opens))

pub range-requires-clause-end_boundary : goal.range-requires-clause-end_boundary
range-requires-clause-end_boundary c =
    let h = c.in_ok-piece.ensures.reads in
    IsCharBoundary-before_ascii c.args.text.now _ h.fits
    (omega (arith, inside_closes _ _ _ h.said h.stands))

pub overflow_add-length : goal.overflow_add-length
overflow_add-length c =
    let h = c.in_ok-piece.ensures.reads in
    omega (arith, c.pieces.invariant.short, h.counted, inside_short _ _ _ h.said h.stands, h.fits)

pub returns-then-piece-clause-reads : goal.returns-then-piece-clause-reads
returns-then-piece-clause-reads c =
    let text = c.args.text.now in
    let h = c.in_ok-piece.ensures.reads in
    let last = c.in_ok-piece.piece.last in
    piece_found text c.args.from last c.skip-next.result h.said _ c.requires.opens
    (subst (λ i. QuotedBytes text (i + 1) last h.said) c.if-at-from.true h.stands)
    c.skip-next.ensures.skip (λ e. c.if-byte-eq34.false (c.byte.ensures.byte ∙ e))
    (subst (λ i. HasNoEscape text (i + 1) last) c.if-at-from.true (h.plain c.if-piece.true))
    c.range.ensures.value c.skip-next.ensures.order c.skip-next.ensures.fits

pub returns-else-at-from-clause-reads : goal.returns-else-at-from-clause-reads
returns-else-at-from-clause-reads c =
    let text = c.args.text.now in
    let h = c.in_ok-piece.ensures.reads in
    let either : (c.pieces.at ≢ c.args.from)
    ⊎ (HasNoEscape text (c.pieces.at + 1) c.in_ok-piece.piece.last → ⊥) =
    elim c.else-at-from.branch [
      | else-at-from-via-then-at-from+else-piece w ↦ inr (h.escaped w.if-piece.false)
      | else-at-from-via-else-at-from w ↦ inl w.if-at-from.false
    ] in
    pieces_found text c.args.from c.pieces.at c.in_ok-piece.piece.last c.skip-next.result _ _ h.said
    c.skip-next.ensures.skip c.skip-next.ensures.order c.skip-next.ensures.fits
    (omega (arith, h.counted)) c.pieces.invariant.opens h.stands
    (λ e. c.if-byte-eq34.false (c.byte.ensures.byte ∙ e)) either c.pieces.invariant.walked

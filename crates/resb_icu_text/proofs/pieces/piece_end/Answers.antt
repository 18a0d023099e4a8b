use Rattle.std.proofs.Common.{◌≡◌, ◌+◌, ◌-◌, arith, rules, refl, sym, ◌∙◌, slice_index}
use Rattle.resb_icu_grammar.specs.Bytes.{backslash}
use Rattle.resb_icu_text.proofs.PiecesLemmas.{goes_bytes, fault_bytes, goes_escape, fault_escape}
use Rattle.resb_icu_text.proofs.PiecesLemmas.{no_escape_fault, no_end_fault, says_fault}
use Rattle.resb_icu_text.proofs.PiecesLemmas.{piece_closes, no_escape_more, fault_said}
use Rattle.resb_icu_text.proofs.StopsLemmas.{is_backslash}
use Rattle.resb_icu_text.proofs.LengthLemmas.{escape_short}
use Rattle.resb_icu_text.proofs.pieces.piece_end.Goals as goal

pub returns-in_default-clause-reads : goal.returns-in_default-clause-reads
returns-in_default-clause-reads c =
    says_fault _ _ _ _ _ _ c.new.ensures
    (no_end_fault c.args.text.now (c.args.from - 1) c.args.from c.piece.at c.piece.invariant.fits
    c.in_default.ensures.none c.piece.invariant.fault)

pub returns-then-byte-eq34-clause-reads : goal.returns-then-byte-eq34-clause-reads
returns-then-byte-eq34-clause-reads c =
    let f = c.in-Some.ensures.found in
    let inside = piece_closes c.args.text.now c.args.from c.in-Some.stop _
    (sym c.byte.ensures.byte ∙ c.if-byte-eq34.true)
    (goes_bytes c.args.text.now c.args.from c.piece.at c.in-Some.stop _ f.order
    (omega (arith, f.fits)) f.before c.piece.invariant.on) in
    record {
      said = inside.0;
      stands = inside.1;
      counted = inside.2;
      plain = λ h. no_escape_more c.args.text.now c.args.from c.piece.at c.in-Some.stop
          f.before (c.piece.invariant.clean h);
      escaped = λ h n. let k = c.piece.invariant.dirty h in
          n k.0 k.1 (omega (arith, k.2, f.order)) k.3;
      order = omega (arith, c.piece.invariant.order, f.order);
      fits = f.fits;
    }

pub returns-in_default-escape-clause-reads : goal.returns-in_default-escape-clause-reads
returns-in_default-escape-clause-reads c =
    let f = c.in-Some.ensures.found in
    let s : slice_index c.args.text.now c.in-Some.stop ≡ backslash =
    is_backslash _ _ _ f (λ e. c.if-byte-eq34.false (c.byte.ensures.byte ∙ e)) in
    says_fault _ _ _ _ _ _ c.new-in_default-escape.ensures
    (fault_said _ _ _ _ _ _ c.escape_there.ensures
    (no_escape_fault c.args.text.now (c.args.from - 1) c.args.from c.in-Some.stop s
    c.in_default-escape.ensures.none
    (fault_bytes c.args.text.now (c.args.from - 1) c.args.from c.piece.at c.in-Some.stop f.order
    (omega (arith, f.fits)) f.before c.piece.invariant.fault)))

pub piece-preserved : goal.piece-preserved
piece-preserved c =
    let text = c.args.text.now in
    let f = c.in-Some.ensures.found in
    let s : slice_index text c.in-Some.stop ≡ backslash =
    is_backslash _ _ _ f (λ e. c.if-byte-eq34.false (c.byte.ensures.byte ∙ e)) in
    let x = c.in-Some-escape.ensures.found in
    let w = c.in-Some-escape.ensures.within in
    let on = goes_bytes text c.args.from c.piece.at c.in-Some.stop _ f.order
    (omega (arith, f.fits)) f.before c.piece.invariant.on in
    let fault = fault_bytes text (c.args.from - 1) c.args.from c.piece.at c.in-Some.stop f.order
    (omega (arith, f.fits)) f.before c.piece.invariant.fault in
    record {
      order = omega (arith, c.piece.invariant.order, f.order, w.0);
      fits = w.1;
      on = goes_escape text c.args.from c.in-Some.stop c.in-Some-escape.to _ _ _ _ refl s x
          (c.escaped_length-length.ensures _) on;
      short = omega (
        arith,
        c.escaped_length-length.ensures (slice_index text (c.in-Some.stop + 1)),
        escape_short text (c.in-Some.stop + 1) c.in-Some-escape.to _ x,
      );
      fault = fault_escape text (c.args.from - 1) c.args.from c.in-Some.stop c.in-Some-escape.to _ _
          refl s x fault;
      clean = λ h. absurd (search rules);
      dirty = λ _. (
        c.in-Some.stop,
        omega (arith, c.piece.invariant.order, f.order),
        omega (arith, w.0),
        s,
      );
      cost = omega (arith, c.add-in-piece.ensures.most, c.piece.invariant.cost, f.order, w.0);
    }

pub overflow_add-length-in-piece : goal.overflow_add-length-in-piece
overflow_add-length-in-piece c =
    let f = c.in-Some.ensures.found in
    let text = c.args.text.now in
    omega (
      arith,
      c.in-Some-escape.ensures.within.1,
      c.escaped_length-length.ensures (slice_index text (c.in-Some.stop + 1)),
      escape_short text (c.in-Some.stop + 1) c.in-Some-escape.to _ c.in-Some-escape.ensures.found,
    )

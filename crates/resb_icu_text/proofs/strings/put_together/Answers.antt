use Rattle.std.proofs.Common.{◌≡◌, ◌+◌, ◌-◌, arith, ap, sym, ◌∙◌, refl, [], append-nil, slice_index}
use Rattle.resb_icu_text.proofs.ReachLemmas.{reach_quote}
use Rattle.resb_icu_grammar.specs.Words as words
use Rattle.resb_icu_grammar.proofs.Faults.{fault_no_part}
use Rattle.resb_icu_grammar.proofs.Lexical.{joined_first}
use Rattle.resb_icu_text.proofs.LengthLemmas.{joined_short}
use Rattle.resb_icu_text.proofs.PartsLemmas.{part_fits, all_said, others_left, left_more, left_none}
use Rattle.resb_icu_text.proofs.StringsLemmas.{piece_fault, row}
use Rattle.resb_icu_text.proofs.strings.put_together.Goals as goal

pub pieces-init : goal.pieces-init
pieces-init c =
    let short = joined_short _ _ _ _ c.requires.joined.1 in
    record {
      left = λ said j. record { rest = said; here = j; whole = refl };
      below = omega (arith, short);
      cost = omega arith;
    }

pub unreachable-requires : goal.unreachable-requires
unreachable-requires c =
    let left = c.pieces.invariant.left _ c.requires.joined.1 in
    let q = joined_first _ _ _ _ left.here in
    fault_no_part _ _ _ _ (piece_fault _ _ _ _ q c.in_default.ensures.reads) _ _
    (words.quoted left.here)

pub pieces-preserved : goal.pieces-preserved
pieces-preserved c =
    let piece = c.in-Ok.ensures.reads in
    let left = c.pieces.invariant.left _ c.requires.joined.1 in
    let next = others_left c.skip-at.result (row _ _ _ _ _ _ piece.stands left.here)
    c.if-piece-end.false c.skip-at.ensures.skip in
    record {
      left = λ said j. left_more piece.said [] _
          (λ s k. (let o = others_left c.skip-at.result (row _ _ _ _ _ s piece.stands k)
          c.if-piece-end.false c.skip-at.ensures.skip in (o.0, o.1, o.2)))
          (c.in_ok-push_piece.ensures.value _ piece.stands ∙ sym (append-nil _))
          (c.pieces.invariant.left said j);
      below = next.4;
      cost = omega (
        arith,
        c.in-Ok.ensures.cost,
        reach_quote _ c.skip-at.result (joined_first _ _ _ _ next.1),
      );
    }

pub returns-then-piece-end-clause-value : goal.returns-then-piece-end-clause-value
returns-then-piece-end-clause-value c = λ said j.
    let piece = c.in-Ok.ensures.reads in
    left_none piece.said _
    (λ s k. all_said (row _ _ _ _ _ s piece.stands k) c.if-piece-end.true)
    (c.in_ok-push_piece.ensures.value _ piece.stands) (c.pieces.invariant.left said j)

pub push_piece-requires-clause-opens : goal.push_piece-requires-clause-opens
push_piece-requires-clause-opens c =
    let left = c.pieces.invariant.left _ c.requires.joined.1 in
    let q = joined_first _ _ _ _ left.here in
    let same : c.pieces.at + 1 - 1 ≡ c.pieces.at = omega arith in
    (omega arith, ap (λ i. slice_index c.args.text.now i) same ∙ q)

pub returns-in_err-push_piece-clause-cost : goal.returns-in_err-push_piece-clause-cost
returns-in_err-push_piece-clause-cost c =
    let piece = c.in-Ok.ensures.reads in
    let left = c.pieces.invariant.left _ c.requires.joined.1 in
    omega (arith, c.in-Ok.ensures.cost, part_fits (row _ _ _ _ _ _ piece.stands left.here))

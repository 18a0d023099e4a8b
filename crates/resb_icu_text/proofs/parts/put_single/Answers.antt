use Rattle.std.proofs.Common.{◌≡◌, ◌+◌, arith, sym, ◌∙◌, refl, List, ℕ}
use Rattle.resb_icu_text.proofs.SeveralLemmas.{single_fault, single_piece, single_word}
use Rattle.resb_icu_text.proofs.parts.put_single.Goals as goal

pub unreachable-requires : goal.unreachable-requires
unreachable-requires c =
    single_fault c.args.text.now c.args.at c.requires.stands.0 _ _ _
    (sym c.byte.ensures.byte ∙ c.if-byte-eq34.true) c.requires.stands.2
    c.in_default.ensures.reads

pub returns-in_err-push_piece-clause-cost : goal.returns-in_err-push_piece-clause-cost
returns-in_err-push_piece-clause-cost c = λ to s g.
    let piece = c.in-Ok.ensures.reads in
    let same = single_piece c.args.text.now c.args.at c.in-Ok.piece.last to _ s
    (sym c.byte.ensures.byte ∙ c.if-byte-eq34.true) piece.stands g in
    omega (arith, same, c.in-Ok.ensures.cost, c.in_err-push_piece.ensures.cost, piece.order)

pub returns-then-byte-eq34-clause-cost : goal.returns-then-byte-eq34-clause-cost
returns-then-byte-eq34-clause-cost c = λ to s g.
    let piece = c.in-Ok.ensures.reads in
    let same = single_piece c.args.text.now c.args.at c.in-Ok.piece.last to _ s
    (sym c.byte.ensures.byte ∙ c.if-byte-eq34.true) piece.stands g in
    omega (arith, same, c.in-Ok.ensures.cost, c.in_ok-push_piece.ensures.cost, piece.order)

pub returns-in_err-push_str-clause-cost : goal.returns-in_err-push_str-clause-cost
returns-in_err-push_str-clause-cost c = λ to s g.
    let word = c.in-Some.ensures.found in
    let same = single_word c.args.text.now c.args.at c.in-Some.to to _ s word g in
    omega (arith, same, word.some, c.add.ensures.most)

pub returns-clause-cost : goal.returns-clause-cost
returns-clause-cost c = λ to s g.
    let word = c.in-Some.ensures.found in
    let same = single_word c.args.text.now c.args.at c.in-Some.to to _ s word g in
    omega (arith, same, word.some, c.add.ensures.most)

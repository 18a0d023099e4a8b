use Rattle.std.proofs.Common.{arith, sym, refl, ◌∙◌}
use Rattle.std.proofs.lemmas.Bool.{false≢true}
use Rattle.resb_icu_grammar.proofs.Lexical.{row_first}
use Rattle.resb_icu_text.proofs.LengthLemmas.{word_short}
use Rattle.resb_icu_text.proofs.PartsLemmas.{all_said, others_left}
use Rattle.resb_icu_text.proofs.ReachLemmas.{reach_row}
use Rattle.resb_icu_text.proofs.RowLemmas.{row_from}
use Rattle.resb_icu_text.proofs.rows.string_of_row.Goals as goal

pub unreachable-requires : goal.unreachable-requires
unreachable-requires c =
    false≢true (sym c.in_default.ensures.stops ∙ row_first _ _ _ _ c.requires.row.1)

pub returns-then-to-end-clause-reads : goal.returns-then-to-end-clause-reads
returns-then-to-end-clause-reads c =
    let word = c.in-Some.ensures.found in
    record {
      to = _;
      word = word;
      last = λ e s r. all_said (row_from _ _ _ _ _ s word r) c.if-to-end.true;
      on = λ n. absurd (n refl);
    }

pub returns-then-to-end-clause-short : goal.returns-then-to-end-clause-short
returns-then-to-end-clause-short c =
    let short = word_short _ _ _ _ c.in-Some.ensures.found in omega (arith, short, c.if-to-end.true)

pub returns-clause-reads : goal.returns-clause-reads
returns-clause-reads c =
    let word = c.in-Some.ensures.found in
    record {
      to = _;
      word = word;
      last = λ e s r. (let o = others_left c.skip.result (row_from _ _ _ _ _ s word r)
          c.if-to-end.false c.skip.ensures.skip in absurd (omega (arith, e, o.4)));
      on = λ n s r. (let o = others_left c.skip.result (row_from _ _ _ _ _ s word r)
          c.if-to-end.false c.skip.ensures.skip in (o.0, o.1, o.2));
    }

pub returns-clause-order : goal.returns-clause-order
returns-clause-order c =
    let word = c.in-Some.ensures.found in
    let o = others_left c.skip.result (row_from _ _ _ _ _ _ word c.requires.row.1)
    c.if-to-end.false c.skip.ensures.skip in
    (omega (arith, word.some, o.3), omega (arith, o.4))

pub returns-clause-short : goal.returns-clause-short
returns-clause-short c =
    let short = word_short _ _ _ _ c.in-Some.ensures.found in
    omega (arith, short, c.skip.ensures.order)

pub returns-clause-cost : goal.returns-clause-cost
returns-clause-cost c =
    let word = c.in-Some.ensures.found in
    let o = others_left c.skip.result (row_from _ _ _ _ _ _ word c.requires.row.1)
    c.if-to-end.false c.skip.ensures.skip in
    omega (
      arith,
      word.some,
      c.add.ensures.most,
      c.skip.ensures.cost,
      reach_row _ _ _ _ o.1,
    )

use Rattle.resb_icu_text.proofs.ReadingLemmas.{no_header_opening, typing_of}
use Rattle.resb_icu_text.proofs.QuotaLemmas.{match_fails}
use Rattle.resb_icu_text.proofs.reader.read_header.Goals as goal

pub returns-in_err-brace-clause-reads : goal.returns-in_err-brace-clause-reads
returns-in_err-brace-clause-reads c =
    let named = c.in_ok-next.ensures.reads in
    match_fails _ _ _ c.from_residual-in_err-brace.ensures.1
    (no_header_opening _ _ _ _ _ _ _ c.begin.ensures.begins
    c.skip-start.ensures.skip named.stands named.after c.in_err-brace.ensures.reads)

pub returns-clause-reads : goal.returns-clause-reads
returns-clause-reads c =
    let named = c.in_ok-next.ensures.reads in
    let opens = c.in_ok-brace.ensures.reads.0 in (
      record {
        begin = c.begin.result;
        start = c.skip-start.result;
        ends = named.to;
        place = c.in_ok-next.next;
        brace = c.in_ok-brace.brace;
        begins = c.begin.ensures.begins;
        before = c.skip-start.ensures.skip;
        named = named.stands;
        between = named.after;
        typed = typing_of _ _ _ _ opens.typed;
        opens = opens.opens;
        after = c.skip-first.ensures.skip;
      },
      c.skip-first.ensures.fits,
    )

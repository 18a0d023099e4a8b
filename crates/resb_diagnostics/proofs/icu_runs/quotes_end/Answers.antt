-- Up to a stop, and behind a backslash and the byte that it hides.
use Rattle.std.proofs.Common.{arith, length}
use Rattle.resb_diagnostics.proofs.Stops.{not_quote}
use Rattle.resb_diagnostics.proofs.IcuQuotes.{plain_on, hidden_on, open_rest, last_rest}
use Rattle.resb_diagnostics.proofs.IcuQuotes.{closed_rest}
use Rattle.resb_diagnostics.proofs.icu_runs.quotes_end.Goals as goal

pub stops-preserved : goal.stops-preserved
stops-preserved c =
    let text = c.args.text.now in
    let stop = c.in-Some.ensures in
    record {
      fits = omega (arith, stop.fits);
      quoted = hidden_on text c.args.from c.in-Some.stop
          (plain_on text c.args.from c.stops.at c.in-Some.stop stop.order c.stops.invariant.quoted
          stop.plain)
          (not_quote text c.stops.at c.in-Some.stop stop c.if-text-stop-eq34.false);
    }

pub returns-in_default : goal.returns-in_default
returns-in_default c =
    let text = c.args.text.now in
    open_rest text c.args.from
    (plain_on text c.args.from c.stops.at (length text) c.stops.invariant.fits
    c.stops.invariant.quoted c.in_default.ensures)

pub returns-then-text-stop-eq34 : goal.returns-then-text-stop-eq34
returns-then-text-stop-eq34 c =
    let text = c.args.text.now in
    let at = c.in-Some.stop in
    let stop = c.in-Some.ensures in
    closed_rest text c.args.from at stop.fits
    (plain_on text c.args.from c.stops.at at stop.order c.stops.invariant.quoted stop.plain)
    c.if-text-stop-eq34.true

pub returns-then-stop-text : goal.returns-then-stop-text
returns-then-stop-text c =
    let text = c.args.text.now in
    let at = c.in-Some.stop in
    let stop = c.in-Some.ensures in
    last_rest text c.args.from at c.if-stop-text.true
    (plain_on text c.args.from c.stops.at at stop.order c.stops.invariant.quoted stop.plain)

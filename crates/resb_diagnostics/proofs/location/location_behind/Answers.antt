-- A line more begins behind a line feed, and none where there is no other one.
use Rattle.std.proofs.Common.{◌≡◌, ◌∙◌, ◌+◌, ◌-◌, suc, sym, ap, arith}
use Rattle.resb_diagnostics.specs.Location.{line_at, column_at}
use Rattle.resb_diagnostics.proofs.LocationLemmas.{same_line, next_feed, behind_feed}
use Rattle.resb_diagnostics.proofs.location.location_behind.Goals as goal

pub feeds-preserved : goal.feeds-preserved
feeds-preserved c =
    let text = c.args.text.now in
    let feed = c.in-Some.feed in
    let first = c.in-Some.ensures in
    let next : feed + 1 ≡ suc feed = omega arith in
    let more : c.feeds.line + 1 ≡ suc c.feeds.line = omega arith in
    let fits = first.fits in
    let order = first.order in
    let few = c.feeds.invariant.3 in (
      omega (arith, fits),
      more ∙ ap suc c.feeds.invariant.1 ∙ sym (next_feed text c.feeds.start c.args.place feed first)
          ∙ sym (ap (line_at text) next),
      sym (ap (column_at text) next ∙ behind_feed text feed first.stands),
      omega (arith, few, order),
    )

pub returns-clause-line : goal.returns-clause-line
returns-clause-line c =
    let text = c.args.text.now in
    let start = c.feeds.start in
    let order = c.feeds.invariant.0 in
    let all : start + (c.args.place - start) ≡ c.args.place = omega (arith, order) in
    c.feeds.invariant.1
    ∙ sym (same_line text start (c.args.place - start)
    (λ k low high. c.in_default.ensures k low (omega (arith, all, high))))
    ∙ ap (line_at text) all

-- What is passed at a place.
use Rattle.std.proofs.Common.{◌≡◌, arith, subst, ℕ}
use Rattle.resb_icu_grammar.specs.Blanks.{Skip}
use Rattle.resb_icu_files.specs.Stretches.{blanks}
use Rattle.resb_icu_files.proofs.stretch.step_at.Goals as goal

pub returns-then-at-next : goal.returns-then-at-next
returns-then-at-next c = (
  blanks _ c.if-at-next.true c.skip-next.ensures.skip,
  c.if-at-next.true,
  c.skip-next.ensures.fits,
  omega arith,
)

pub token_at-requires-clause-solid : goal.token_at-requires-clause-solid
token_at-requires-clause-solid c =
    let text = c.args.text.now in
    let at = c.args.at in
    let here : c.skip-next.result ≡ at = omega (arith, c.skip-next.ensures.order) in
    let s : Skip text at at =
    subst (λ (i : ℕ). Skip text at i) here c.skip-next.ensures.skip in
    s.solid

-- A byte that is a token, and one that is nothing by itself.
use Rattle.std.proofs.Common.{◌∙◌, None, Some, sym, subst}
use Rattle.std.specs.Prelude.{slice_index}
use Rattle.std.proofs.lemmas.Bool.{ne_eqb}
use Rattle.resb_grammar.specs.Ascii.{quote, slash}
use Rattle.resb_diagnostics.proofs.IcuTokenRuns.{IsIcuSign, piece_sign, lone_sign, sign_step}
use Rattle.resb_diagnostics.proofs.IcuTokenRuns.{no_slash_alone}
use Rattle.resb_diagnostics.proofs.icu_steps.next_step.Goals as goal

pub returns-in-Some : goal.returns-in-Some
returns-in-Some c =
    let text = c.args.text.now in
    let at = c.args.at in
    let is = sym c.in-Some.is ∙ c.sign.ensures in
    sign_step text at (Some c.in-Some.token) c.args.before c.passed_byte.result c.requires.fits
    c.requires.between c.requires.dark
    (piece_sign text at (slice_index text at) c.in-Some.token is) is c.requires.before
    c.passed_byte.ensures.ended c.passed_byte.ensures.colon

pub returns : goal.returns
returns c =
    let text = c.args.text.now in
    let at = c.args.at in
    let b = slice_index text at in
    let is = sym c.in_default.is ∙ c.sign.ensures in
    sign_step text at None c.args.before c.passed_byte-2.result c.requires.fits c.requires.between
    c.requires.dark
    (subst (IsIcuSign text at b) (sym is)
    (lone_sign text at b
    (no_slash_alone text at (ne_eqb b slash c.if-byte-eq47.false)
    (sym c.word_goes_on.ensures ∙ c.if-word_goes_on.false))
    (ne_eqb b quote c.if-byte-eq34.false) (ne_eqb b slash c.if-byte-eq47.false)))
    is c.requires.before c.passed_byte-2.ensures.ended c.passed_byte-2.ensures.colon

-- What is passed where no blank stands.
use Rattle.std.proofs.Common.{◌≡◌, arith, sym, ◌∙◌}
use Rattle.std.specs.Prelude.{slice_index}
use Rattle.resb_grammar.specs.Ascii as ascii
use Rattle.resb_icu_files.specs.Stretches.{quoted, other}
use Rattle.resb_icu_files.proofs.stretch.token_at.Goals as goal

pub returns-in-Some : goal.returns-in-Some
returns-in-Some c =
    let l = rw c.in-Some.is at c.in_ok-quoted.ensures.found in
    let q : slice_index c.args.text.now c.args.at ≡ ascii.quote =
    sym c.byte-first.ensures.byte ∙ c.if-first-eq34.true in
    (quoted _ _ l.after q l.string, l.after, omega (arith, l.order, l.fits), omega (arith, l.after))

pub returns-in-None-2 : goal.returns-in-None-2
returns-in-None-2 c =
    let o = other record {
      inside = c.requires.inside;
      solid = c.requires.solid;
      no_quote = λ e. c.if-first-eq34.false (c.byte-first.ensures.byte ∙ e);
      no_comment = sym c.begins_comment.ensures ∙ c.if-begins_comment.false;
      no_group = rw c.in-None-2.is at c.in_ok-group.ensures.none;
    } (sym c.closes_root.ensures ∙ c.if-closes_root.false) in (
      rw (c.depth_behind.ensures.value, c.byte-first.ensures.byte) o,
      omega arith,
      omega (arith, c.requires.inside),
      omega (arith, c.depth_behind.ensures.low, c.requires.low),
    )

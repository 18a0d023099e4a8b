-- A comment of a line or of stars.
use Rattle.std.proofs.Common.{arith}
use Rattle.std.specs.Prelude.{slice_index, ◌+◌}
use Rattle.std.proofs.lemmas.Bool.{ne_eqb}
use Rattle.resb_grammar.specs.Ascii.{slash}
use Rattle.resb_diagnostics.proofs.IcuCommentRuns.{line_comment, bare_block, block_comment}
use Rattle.resb_diagnostics.proofs.IcuCommentRuns.{begins_star}
use Rattle.resb_diagnostics.proofs.icu_runs.icu_comment_end.Goals as goal

pub returns-then-text-at-eq47 : goal.returns-then-text-at-eq47
returns-then-text-at-eq47 c =
    line_comment c.args.text.now c.args.at c.icu_line_end.result c.requires.fits
    c.requires.between c.requires.begins c.if-text-at-eq47.true c.icu_line_end.ensures

pub returns-then-at-text : goal.returns-then-at-text
returns-then-at-text c =
    let text = c.args.text.now in
    let at = c.args.at in
    bare_block text at c.if-at-text.true c.requires.between c.requires.begins
    (begins_star text at c.requires.begins
    (ne_eqb (slice_index text (at + 1)) slash c.if-text-at-eq47.false))

pub returns : goal.returns
returns c =
    let text = c.args.text.now in
    let at = c.args.at in
    block_comment text at c.block_end.result (omega arith) c.requires.between c.requires.begins
    (begins_star text at c.requires.begins
    (ne_eqb (slice_index text (at + 1)) slash c.if-text-at-eq47.false)) c.block_end.ensures

-- A byte that is nothing by itself.
use Rattle.std.proofs.Common.{None, subst}
use Rattle.std.proofs.lemmas.Bool.{ne_eqb}
use Rattle.resb_grammar.specs.Ascii.{slash}
use Rattle.resb_diagnostics.proofs.TokenRuns.{IsSign, sign_goes_on, lone_sign}
use Rattle.resb_diagnostics.proofs.text_pieces.behind_other.Goals as goal

pub returns-else-byte-eq47 : goal.returns-else-byte-eq47
returns-else-byte-eq47 c =
    let text = c.args.text.now in
    let at = c.args.at in
    let b = c.args.byte in
    sign_goes_on text at None c.requires.fits c.requires.between
    (subst (λ n. IsSign text at n None) c.requires.byte
    (subst (IsSign text at b) c.requires.no_piece
    (lone_sign text at b c.requires.not_word c.requires.not_quote
    (ne_eqb b slash c.if-byte-eq47.false))))

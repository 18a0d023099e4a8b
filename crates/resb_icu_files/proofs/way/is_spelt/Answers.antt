use Rattle.std.proofs.Common.{sym, ◌∙◌}
use Rattle.resb_icu_files.proofs.WaysLemmas.{unspelt}
use Rattle.resb_icu_files.proofs.way.is_spelt.Goals as goal

pub returns : goal.returns
returns c = λ e.
    unspelt c.args.text.now c.args.way c.spelling.result.now c.find.result c.spelling.ensures
    c.find.ensures (sym c.is_some.ensures ∙ e)

-- Mode, line, open groups and what was found are those of the place.
use Rattle.std.proofs.Common.{◌≡◌, ◌≤◌}
use Rattle.resb_diagnostics.specs.Braces.{mode_in}
use Rattle.resb_diagnostics.specs.Clues.{is_first, indent_at, indents_at, outdent_in}
use Rattle.resb_diagnostics.proofs.clues.outdent.Given as goal

abbrev pub invariant-bytes : goal.invariant-bytes
invariant-bytes g l =
    (l.mode ≡ mode_in g.M.Modes.form l.text l.at) × (l.line.is_first ≡ is_first l.text l.at)
    × (l.line.indent ≡ indent_at l.text l.at) × (l.line.indent ≤ l.at)
    × (l.indents.items ≡ indents_at g.M.Modes.form l.text l.at)
    × (l.found ≡ outdent_in g.M.Modes.form l.text l.at)

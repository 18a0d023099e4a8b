use Rattle.std.proofs.Common.{refl, ap, ◌∙◌}
use Rattle.std.specs.Prelude.{slice_index}
use Rattle.resb_diagnostics.specs.Braces.{depth_behind}
use Rattle.resb_diagnostics.proofs.MarksLemmas.{marked_next}
use Rattle.resb_diagnostics.proofs.icu_marks.Marks.behind.Goals as goal

pub returns : goal.returns
returns c =
    marked_next c.args.text.now c.args.at _ c.depth_behind-depth.result c.args.self
    c.behind-mode.result c.ends-has_ended.result
    c.leaves_piece-has_piece.result c.requires.marks refl
    c.behind-mode.ensures
    (c.depth_behind-depth.ensures ∙ ap (λ t. depth_behind t
    (slice_index c.args.text.now c.args.at) c.args.self.depth) c.has_tokens.ensures)
    c.ends-has_ended.ensures c.leaves_piece-has_piece.ensures

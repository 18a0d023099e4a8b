use Rattle.std.proofs.Common.{sym, ◌∙◌, ap}
use Rattle.std.specs.Prelude.{map}
use Rattle.resb_grammar.specs.Machine.{shape_in}
use Rattle.resb_text.specs.Inner.Shown.{shown_by}
use Rattle.resb_text.specs.Inner.Frames.{FrameView, group_body_of}
use Rattle.resb_text.proofs.FramesLemmas.{shape_array}
use Rattle.resb_text.proofs.frames.Frame.shape.Goals as goal
use Rattle.resb_grammar.proofs.BothReaders.{pairs_are_table}

pub returns-then-is_pairs : goal.returns-then-is_pairs
returns-then-is_pairs g c = λ tree held n f x.
    sym (ap (λ b. shape_in b f.items)
    (sym (ap (λ (l : FrameView). l.body) x) ∙ ap group_body_of c.in-Untyped.is)
    ∙ pairs_are_table f.items (sym (c.is_pairs.ensures tree held n f x) ∙ c.if-is_pairs.true))

pub returns-else-is_pairs : goal.returns-else-is_pairs
returns-else-is_pairs g c = λ tree held n f x.
    sym (ap (λ b. shape_in b f.items)
    (sym (ap (λ (l : FrameView). l.body) x) ∙ ap group_body_of c.in-Untyped.is)
    ∙ shape_array f.items (sym (c.is_pairs.ensures tree held n f x) ∙ c.if-is_pairs.false)
    (λ s e. c.in-None.ensures tree held s
    (ap (map (shown_by tree held)) c.deref.ensures.value ∙ ap (λ (l : FrameView). l.items) x ∙ e)))

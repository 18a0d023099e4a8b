use Rattle.std.proofs.Common.{ap, sym, ◌∙◌}
use Rattle.resb_text.specs.Inner.Frames.{FrameView}
use Rattle.resb_text.proofs.FramesLemmas.{pairs_then}
use Rattle.resb_text.proofs.frames.Frame.is_pairs.Goals as goal

pub returns-then-self : goal.returns-then-self
returns-then-self g c = λ tree held n f x.
    pairs_then f.items (sym (ap (λ (l : FrameView). l.alternates) x) ∙ c.if-self.true) _
    (c.is_key_place.ensures tree held n f x)

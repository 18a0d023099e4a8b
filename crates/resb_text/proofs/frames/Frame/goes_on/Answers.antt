use Rattle.std.proofs.Common.{◌∙◌, sym, ap, false}
use Rattle.resb_text.specs.Inner.Shown.{shown_term_by}
use Rattle.resb_text.specs.Inner.Frames.{FrameView}
use Rattle.resb_text.specs.declared.items.Term.{Term}
use Rattle.resb_text.proofs.FramesLemmas.{goes_string, goes_group, key_then}
use Rattle.resb_text.proofs.frames.Frame.goes_on.Goals as goal

pub returns-in-String : goal.returns-in-String
returns-in-String g c =
    λ tree held n f m x is. goes_string _ m f.items _
    (sym (ap (λ (w : Term _). shown_term_by tree held w false) c.in-String.is)
    ∙ is) (c.is_pairs.ensures tree held n f x)

pub returns-then-self : goal.returns-then-self
returns-then-self g c = λ tree held n f m x is.
    goes_group _ _ m f.items _ (sym (ap (λ
    (w : Term _). shown_term_by tree held w false) c.in-Group.is)
    ∙ is) (key_then f.items (sym (ap (λ (l : FrameView). l.alternates) x) ∙ c.if-self.true) _
    (c.is_key_place.ensures tree held n f x))

use Rattle.std.proofs.Common.{◌∙◌, ap, arith, sym}
use Rattle.std.specs.Prelude.{map}
use Rattle.std.proofs.lemmas.Bool.{ltb-true, ltb-false}
use Rattle.resb_text.specs.Inner.Frames.{FrameView}
use Rattle.resb_text.specs.Inner.Shown.{shown_by}
use Rattle.resb_text.proofs.FramesLemmas.{some_key_place, none_key_place}
use Rattle.resb_text.proofs.frames.Frame.is_key_place.Goals as goal

pub returns-in-Some : goal.returns-in-Some
returns-in-Some g c = λ tree held n f x.
    some_key_place tree held _ f.items _ _
    (ap (map (shown_by tree held)) c.deref.ensures.value ∙ ap (λ (l : FrameView). l.items) x)
    (ltb-true 0 _ (sym c.in-Some.ensures.item.0)) c.in-Some.ensures.item.1
    (c.is_string.ensures tree held)

pub returns-in-None : goal.returns-in-None
returns-in-None g c = λ tree held n f x.
    none_key_place tree held _ f.items
    (ap (map (shown_by tree held)) c.deref.ensures.value ∙ ap (λ (l : FrameView). l.items) x)
    (omega (arith, ltb-false 0 _ (sym c.in-None.ensures.item.0)))

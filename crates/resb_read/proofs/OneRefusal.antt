-- A file is refused in one way.
use Rattle.std.proofs.Common.{ℕ, List, ◌≡◌, ◌⊎◌, inl, inr, sym, ◌∙◌}
use Rattle.std.proofs.lemmas.Option.{same_Some}
use Rattle.resb_format.specs.Error.{IsWantOfMemory, refusal_of}
use Rattle.resb_format.specs.declared.error.ReadingError.{ReadingError}
use Rattle.resb_walk.specs.Refusals.{IsSpent}
use Rattle.resb_walk.proofs.Meeting.{one_fault}
use Rattle.resb_read.specs.Roots.{Whole, RefusesWhole, IsRefusedOnce, alone}
use Rattle.resb_read.proofs.Rooted.{IsLinked, alone_linked, no_file}

both_spent : (d e : ReadingError) → IsSpent d → IsSpent e → refusal_of d ≡ refusal_of e
both_spent d e h k =
    let kinds = h.kind_is ∙ sym k.kind_is in
    let messages = h.message_is ∙ sym k.message_is in
    cc

-- memory aside, one refusal is given of whatever bytes come to
pub one_refusal_of : (w : Whole) (d e : ReadingError) → IsLinked w → RefusesWhole w d
    → RefusesWhole w e → (IsWantOfMemory d ⊎ IsWantOfMemory e) ⊎ (refusal_of d ≡ refusal_of e)
one_refusal_of w d e l (inl h) (inl k) = inr (same_Some _ _ (sym h ∙ k))
one_refusal_of w d e l (inl h) (inr (is, _, _)) = absurd (no_file w (refusal_of d) l h is)
one_refusal_of w d e l (inr (is, _, _)) (inl k) = absurd (no_file w (refusal_of e) l k is)
one_refusal_of w d e l (inr (_, inl m, _)) (inr k) = inl (inl m)
one_refusal_of w d e l (inr h) (inr (_, inl m, _)) = inl (inr m)
one_refusal_of w d e l (inr (_, inr (inl (s, _)), _)) (inr (_, inr (inl (t, _)), _)) =
    inr (both_spent d e s t)
one_refusal_of w d e l (inr (_, inr (inl (s, r)), _)) (inr (_, inr (inr (f, stuck)), _)) =
    absurd (stuck.1 r)
one_refusal_of w d e l (inr (_, inr (inr (f, stuck)), _)) (inr (_, inr (inl (s, r)), _)) =
    absurd (stuck.1 r)
one_refusal_of w d e l (inr (_, inr (inr (f, _)), m)) (inr (_, inr (inr (g, _)), n)) =
    inr (one_fault w.parts (m f) (n g))

-- a file is refused with one kind and message at most, memory aside
pub one_refusal : (bytes : List ℕ) → IsRefusedOnce (alone bytes)
one_refusal bytes d e h k = one_refusal_of (alone bytes) d e (alone_linked bytes) h k

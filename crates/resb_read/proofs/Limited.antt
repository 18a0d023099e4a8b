-- A file is refused in one way within a limit of bytes.
use Rattle.std.proofs.Common.{ℕ, List, ◌≡◌, ◌<◌, ◌≤◌, ◌+◌, ◌⊎◌, inl, inr, Ok, Err, sym, ap, ◌∙◌}
use Rattle.std.proofs.Common.{arith}
use Rattle.resb_tree.specs.Tree.{Tree}
use Rattle.resb_tree.specs.View.{tree_of}
use Rattle.resb_tree.specs.declared.resource.Resource.{Resource}
use Rattle.resb_format.proofs.Denoting.{reached_at_most}
use Rattle.resb_format.specs.Error.{IsWantOfMemory, IsInvalid, refusal_of}
use Rattle.resb_format.specs.declared.error.ReadingError.{ReadingError}
use Rattle.resb_walk.specs.Pieces.{Piece}
use Rattle.resb_walk.specs.TreeBytes.{tree_bytes}
use Rattle.resb_walk.proofs.Holding.{one_holding}
use Rattle.resb_read.specs.Measuring.{TakesMoreOf, TreeFits, TreeWithinOf, IsRefusedOnceWithin}
use Rattle.resb_read.specs.Measuring.{key_bytes, HoldsPieces}
use Rattle.resb_read.specs.Roots.{Whole, RefusesWhole, alone}
use Rattle.resb_read.proofs.OneRefusal.{one_refusal_of}
use Rattle.resb_read.proofs.Rooted.{IsLinked, alone_linked, no_file}

-- two refusals with one message are one
both_say : (m : List ℕ) (d e : ReadingError) → IsInvalid d m → IsInvalid e m
    → refusal_of d ≡ refusal_of e
both_say m d e h k =
    let kinds = h.kind_is ∙ sym k.kind_is in
    let messages = h.message_is ∙ sym k.message_is in
    cc

-- a file that denotes a tree within its budget is refused for want of memory alone
pub denoted_memory : (w : Whole) (t : Tree) (n : ℕ) (e : ReadingError) → IsLinked w
    → w.denotes t n → n ≤ w.budget → RefusesWhole w e → IsWantOfMemory e
denoted_memory w t n e l d fits (inl fault) =
    absurd (no_file w (refusal_of e) l fault (l.heads t n d))
denoted_memory w t n e l d fits (inr (is, inl m, _)) = m
denoted_memory w t n e l d fits (inr (is, inr (inl (spent, reaches)), _)) =
    let k : w.budget + 1 ≤ n = reached_at_most w.parts (l.roots t n d) reaches in
    absurd (omega arith)
denoted_memory w t n e l d fits (inr (is, inr (inr (fault, stuck)), _)) =
    absurd (stuck.0 t n (l.roots t n d))

-- what takes more is refused by the reader for want of memory alone
more_memory : (sum : List Piece → ℕ) (w : Whole) (limit : ℕ) (e : ReadingError) → IsLinked w
    → TakesMoreOf sum w limit → RefusesWhole w e → IsWantOfMemory e
more_memory sum w limit e l more h =
    denoted_memory w more.tree more.count e l more.denotes more.within h

-- no sum is within the limit and beyond it
never_both : (sum : List Piece → ℕ) (w : Whole) (limit : ℕ) (xs : List Piece) → HoldsPieces w xs
    → sum xs ≤ limit → TakesMoreOf sum w limit → ⊥
never_both sum w limit xs holds fits more =
    let same : sum xs ≡ sum more.holding = ap sum (one_holding w.parts holds more.holds) in
    omega (arith, fits, same, more.more)

-- a tree that takes more doesn't fit
fits_not : (w : Whole) (limit : ℕ) → TreeFits w limit → TakesMoreOf tree_bytes w limit → ⊥
fits_not w limit (xs, holds, fits) more = never_both tree_bytes w limit xs holds fits more

once : (w : Whole) (limit : ℕ) (d e : ReadingError) → IsLinked w → TreeWithinOf w limit (Err d)
    → TreeWithinOf w limit (Err e)
    → (IsWantOfMemory d ⊎ IsWantOfMemory e) ⊎ (refusal_of d ≡ refusal_of e)
once w limit d e l (inl h) (inl k) = one_refusal_of w d e l h k
once w limit d e l (inl h) (inr (inl (_, more))) =
    inl (inl (more_memory tree_bytes w limit d l more h))
once w limit d e l (inl h) (inr (inr (_, _, more))) =
    inl (inl (more_memory key_bytes w limit d l more h))
once w limit d e l (inr (inl (_, more))) (inl k) =
    inl (inr (more_memory tree_bytes w limit e l more k))
once w limit d e l (inr (inr (_, _, more))) (inl k) =
    inl (inr (more_memory key_bytes w limit e l more k))
once w limit d e l (inr (inl (says, _))) (inr (inl (tells, _))) = inr (both_say _ d e says tells)
once w limit d e l (inr (inr (says, _, _))) (inr (inr (tells, _, _))) = inr (both_say _ d e says tells)
once w limit d e l (inr (inl (_, more))) (inr (inr (_, fits, _))) =
    absurd (fits_not w limit fits more)
once w limit d e l (inr (inr (_, fits, _))) (inr (inl (_, more))) =
    absurd (fits_not w limit fits more)

read : (w : Whole) (limit : ℕ) (r : Resource) (e : ReadingError) → IsLinked w
    → TreeWithinOf w limit (Ok r) → TreeWithinOf w limit (Err e) → IsWantOfMemory e
read w limit r e l ((n, d, fits, _), _) (inl h) = denoted_memory w (tree_of r) n e l d fits h
read w limit r e l (_, (xs, holds, (tree, keys))) (inr (inl (_, more))) =
    absurd (never_both tree_bytes w limit xs holds tree more)
read w limit r e l (_, (xs, holds, (tree, keys))) (inr (inr (_, _, more))) =
    absurd (never_both key_bytes w limit xs holds keys more)

pub refused_once_within : (w : Whole) → IsLinked w → IsRefusedOnceWithin w
refused_once_within w l = record {
  once = λ limit d e h k. once w limit d e l h k;
  read = λ limit r e h k. read w limit r e l h k;
}

-- of a file that is read alone
pub one_refusal_within : (bytes : List ℕ) → IsRefusedOnceWithin (alone bytes)
one_refusal_within bytes = refused_once_within (alone bytes) (alone_linked bytes)

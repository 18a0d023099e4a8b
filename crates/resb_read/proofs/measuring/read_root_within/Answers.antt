-- A tree that is measured, and is made where it fits.
use Rattle.std.proofs.Common.{◌≡◌, ◌<◌, ◌≤◌, ◌↔◌, ℕ, List, Bool, false, Ok, Err, inl, inr, ◌∙◌}
use Rattle.std.proofs.Common.{IsTrue}
use Rattle.std.specs.Prelude.{Result}
use Rattle.std.proofs.lemmas.Bool.{cases_lt}
use Rattle.std.proofs.lemmas.Result.{err_from_is_err_and}
use Rattle.resb_tree.specs.declared.resource.Resource.{Resource}
use Rattle.resb_format.specs.declared.error.ReadingError.{ReadingError}
use Rattle.resb_walk.specs.Pieces.{Piece}
use Rattle.resb_walk.specs.TreeBytes.{tree_bytes}
use Rattle.resb_read.specs.Inner.AtRoot.{TreeHere, TreeWithinHere}
use Rattle.resb_read.specs.Measuring.{key_bytes, FitsWithin}
use Rattle.resb_read.specs.Places.{Place, place_of}
use Rattle.resb_read.specs.Resources.{HoldsPlace}
use Rattle.resb_read.proofs.measuring.read_root_within.Goals as goal

over : (b : Bool) (n limit : ℕ) → IsTrue b ↔ (n ≤ limit) → b ≡ false → limit < n
over b n limit e f = elim (cases_lt limit n) [
  | inl l ↦ l
  | inr l ↦ absurd (let h = e.1 l in cc)
]

made : (p : Place) (left limit : ℕ) (r : Result Resource ReadingError) → TreeHere p left r
    → (xs : List Piece) × HoldsPlace p xs × FitsWithin limit xs → TreeWithinHere p left limit r
made p left limit (Ok r) h (xs, k, fits) = (h, xs, k, fits)
made p left limit (Err e) h w = inl h

pub returns-in_err-measured : goal.returns-in_err-measured
returns-in_err-measured c =
    let p = err_from_is_err_and c.from_residual.result c.from_residual.ensures.1 in
    let all : c.new.result ≡ c.args.walk = c.new.ensures ∙ c.left.ensures in
    rw (p.1, p.2) (inl (rw all at c.in_err-measured.ensures))

pub returns-then-not-is_within : goal.returns-then-not-is_within
returns-then-not-is_within c =
    let all : c.new.result ≡ c.args.walk = c.new.ensures ∙ c.left.ensures in
    let (counted, xs, h, m) = rw all at c.in_ok-measured.ensures in
    inr (inl (
      c.larger.ensures,
      (
        c.in_ok-measured.measured.resources,
        counted,
        xs,
        h,
        over c.is_within.result (tree_bytes xs) c.args.limit (c.is_within.ensures xs m)
            c.if-not-is_within.true,
      ),
    ))

pub returns-then-not-keys_are_within : goal.returns-then-not-keys_are_within
returns-then-not-keys_are_within c =
    let all : c.new.result ≡ c.args.walk = c.new.ensures ∙ c.left.ensures in
    let (counted, xs, h, m) = rw all at c.in_ok-measured.ensures in
    inr (inr (
      c.larger_keys.ensures,
      (xs, h, (c.is_within.ensures xs m).0 c.if-not-is_within.false),
      (
        c.in_ok-measured.measured.resources,
        counted,
        xs,
        h,
        over c.keys_are_within.result (key_bytes xs) c.args.limit (c.keys_are_within.ensures xs m)
            c.if-not-keys_are_within.true,
      ),
    ))

pub returns : goal.returns
returns c =
    let (counted, xs, h, m) = c.in_ok-measured.ensures in
    made (place_of c.args.root) c.args.walk c.args.limit c.read_root_tree.result
    c.read_root_tree.ensures (
      xs,
      h,
      (
        (c.is_within.ensures xs m).0 c.if-not-is_within.false,
        (c.keys_are_within.ensures xs m).0 c.if-not-keys_are_within.false,
      ),
    )

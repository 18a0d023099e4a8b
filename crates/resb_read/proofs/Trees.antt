-- Refusals of trees at places.
use Rattle.std.proofs.Common.{ℕ, ◌≤◌, ◌+◌, inl, inr, arith}
use Rattle.resb_tree.specs.Tree.{Tree}
use Rattle.resb_format.specs.Parts.{Parts}
use Rattle.resb_format.proofs.Denoting.{reached_at_most}
use Rattle.resb_format.specs.declared.error.ReadingError.{ReadingError}
use Rattle.resb_walk.specs.Refusals.{Refuses}
use Rattle.resb_format.proofs.Denoting.{counted_member}
use Rattle.resb_read.specs.Places.{Place}
use Rattle.resb_read.specs.Reading.{LacksOrMemory}
use Rattle.resb_read.specs.Leaves.{CountsOf}
use Rattle.resb_read.specs.Resources.{DenSpot, ReachesSpot, DenPlace, ReachesPlace}
use Rattle.resb_read.specs.declared.cursor.Spot.{Spot}
use Rattle.resb_read.specs.declared.cursor.Spot.TheVariants as spot

counted_at : (p : Parts) (s : Spot) (t : Tree) (m n : ℕ) → DenSpot p s t n → ReachesSpot p s m
    → m ≤ n
counted_at p (spot.Descriptor w) t m n d r = reached_at_most p d r
counted_at p (spot.Unit u) t m n d r = counted_member p d r
counted_at p (spot.Word w) t m n d r = absurd d
counted_at p (spot.Key k) t m n d r = absurd d

-- a refusal is for want of memory, or no count that can be paid for stands there
pub refuses_lacks : (p : Place) (left : ℕ) (e : ReadingError)
    → Refuses (DenPlace p) (ReachesPlace p) left e → LacksOrMemory (CountsOf DenPlace p) left e
refuses_lacks p left e (inl m) = inl m
refuses_lacks p left e (inr (inl (s, r))) =
    inr (λ n (t, d) paid.
    (let k : left + 1 ≤ n = counted_at p.parts p.at t (left + 1) n d r in absurd (omega arith)))
refuses_lacks p left e (inr (inr (f, stuck))) = inr (λ n (t, d) paid. stuck.0 t n d)

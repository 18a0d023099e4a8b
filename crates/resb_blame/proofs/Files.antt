-- What is to blame in a whole file, and where it leads.
use Rattle.std.proofs.Common.{◌≡◌, ◌≤◌, ◌+◌, ◌⊎◌, ℕ, inl, inr, ap, ◌∙◌, None, subst}
use Rattle.std.proofs.Common.{arith}
use Rattle.resb_format.specs.Error.{kind_of, IsWantOfMemory}
use Rattle.resb_format.specs.declared.error.ErrorKind.TheVariants.{OutOfMemory}
use Rattle.resb_format.specs.declared.error.ReadingError.{ReadingError}
use Rattle.resb_read.specs.Places.{Place}
use Rattle.resb_read.specs.Reading.{LacksOrMemory}
use Rattle.resb_read.specs.Roots.{Whole, HoldsAt, place_of_root}
use Rattle.resb_read.proofs.Rooted.{IsLinked, holds_there}
use Rattle.resb_blame.specs.Blamed.{Blamed}
use Rattle.resb_blame.specs.Blames.{Blaming}
use Rattle.resb_blame.specs.BlamedFiles.{BlamesFile, PointsFile}
use Rattle.resb_blame.specs.Pointing.{Pointed, here_points}

-- a count that can be paid stands there, and the error is the one that was answered
abbrev pub IsCounted : (Place → ℕ → Type 0) → Whole → ReadingError → Blamed → Type 0
IsCounted counts w e b =
    (n : ℕ) × HoldsAt (λ p. counts p n) w × (n ≤ w.budget) × (b.error ≡ e)

-- a count that was taken at the root
pub counted_there : (counts : Place → ℕ → Type 0) (w : Whole) (p : Place) (left left' n : ℕ)
    (e : ReadingError) (b : Blamed) → IsLinked w → w.refusal ≡ None → p ≡ place_of_root w
    → left ≡ w.budget → counts p n → left' + n ≡ left → b.error ≡ e → IsCounted counts w e b
counted_there counts w p left left' n e b l none same all h paid is =
    (n, holds_there (λ q. counts q n) w p l none same h, omega (arith, paid, all), is)

-- what is to blame at the root
pub blamed_there : (blames : Blaming) (w : Whole) (p : Place) (left left' : ℕ) (b : Blamed)
    → IsLinked w → w.refusal ≡ None → p ≡ place_of_root w → left ≡ w.budget
    → IsWantOfMemory b.error ⊎ blames p left left' b → BlamesFile blames w b
blamed_there blames w p left left' b l none same all (inl m) = inl m.kind_is
blamed_there blames w p left left' b l none same all (inr h) =
    inr (inr (
      left',
      holds_there (λ q. blames q w.budget left' b) w p l none same
          (subst (λ n. blames p n left' b) all h),
    ))

-- where a reading was refused and yet a count stands there, memory was wanted
pub resolved : (counts : Place → ℕ → Type 0) (blames : Blaming) (w : Whole) (e : ReadingError)
    (b : Blamed) → BlamesFile blames w b ⊎ IsCounted counts w e b
    → LacksOrMemory (λ n. HoldsAt (λ p. counts p n) w) w.budget e → BlamesFile blames w b
resolved counts blames w e b (inl h) why = h
resolved counts blames w e b (inr (n, h, fits, same)) (inl m) = inl (ap kind_of same ∙ m.kind_is)
resolved counts blames w e b (inr (n, h, fits, same)) (inr lacks) = absurd (lacks n h fits)

-- what is to blame in a file leads somewhere
pub leads_on : (blames : Blaming) → Pointed blames → (w : Whole) (b : Blamed)
    → BlamesFile blames w b → PointsFile w b
leads_on blames points w b (inl m) = inl m
leads_on blames points w b (inr (inl (here, e))) = inr (here_points (place_of_root w) b here)
leads_on blames points w b (inr (inr (left, h))) =
    inr (points (place_of_root w) w.budget left b h.root)

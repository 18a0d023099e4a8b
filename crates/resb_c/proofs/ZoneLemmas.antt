-- Why a file has no records of zones, as it is told.
use Rattle.std.proofs.Common.{◌≡◌, ℕ, ℤ, List, None, Result, subst, sym}
use Rattle.resb_format.specs.declared.error.ReadingError.{ReadingError}
use Rattle.resb_c.specs.Inner.Heads.{IsToldAs}
use Rattle.resb_zoneinfo.specs.declared.data.ZoneInfo.{ZoneInfo}
use Rattle.resb_c.specs.Zones.{HasNoInfo, TellsOffset}
use Rattle.resb_c.specs.declared.fault.Fault.{Fault}
use Rattle.resb_c.specs.declared.fault.Fault.TheVariants.{UsesPool, Reading}

-- a refusal that is told beside no pool bundle
pub told_info : (refuses : List ℕ → ReadingError → Type 0) (file : List ℕ) (e : ReadingError)
    (f : Fault) → IsToldAs None file e f → refuses file e → HasNoInfo refuses file f
told_info refuses file e UsesPool told h = told
told_info refuses file e (Reading d) (lacks, same) h =
    (lacks, subst (λ x. refuses file x) (sym same) h)
told_info refuses file e _ told h = absurd told

-- what is told at a moment is told at the same one
pub told_at : (reads : List ℕ → ZoneInfo → Type 0) (refuses : List ℕ → ReadingError → Type 0)
    (file name : List ℕ) (m n : ℤ) (r : Result ℤ Fault) → m ≡ n
    → TellsOffset reads refuses file name m r → TellsOffset reads refuses file name n r
told_at reads refuses file name m n r same h =
    subst (λ k. TellsOffset reads refuses file name k r) same h

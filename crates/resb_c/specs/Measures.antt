-- What measuring a file answers, and the numbers that the caller gets of it.
--     MeasuresFile pool file r    what measuring a file answers, beside the pool's bytes
--     ShowsSums r c               the numbers that the caller gets of an answer
use Rattle.std.specs.Prelude.{◌≡◌, ◌-◌, ◌^◌, ℕ, List, Option, unwrap_or, Result, Ok, Err}
use Rattle.resb_walk.specs.Pieces.{Piece}
use Rattle.resb_walk.specs.Sums.{fitting}
use Rattle.resb_walk.specs.TreeBytes.{tree_bytes}
use Rattle.resb_read.specs.Measuring.{IsMeasured, AnswersMeasureOf}
use Rattle.resb_read.specs.WithPool.{over}
use Rattle.resb_read.specs.declared.measuring.Measured.{Measured}
use Rattle.resb_program.specs.Files.{LacksPool, RefusesReading}
use Rattle.resb_c.specs.Pools.{given, IsGiven, RefusesPool}
use Rattle.resb_c.specs.declared.fault.Fault.{Fault}
use Rattle.resb_c.specs.declared.fault.Fault.TheVariants.{Reading, UsesPool, Pool}
use Rattle.resb_c.specs.declared.measured.ResbMeasured.{ResbMeasured}

-- what the file's tree adds up to, beside the pool bundle of these bytes; the reader's refusal;
-- that the bytes are no pool bundle; or that the file lacks one
abbrev pub MeasuresFile : List ℕ → List ℕ → Result Measured Fault → Type 0
MeasuresFile pool file (Ok m) = IsGiven pool × AnswersMeasureOf (over (given pool) file) (Ok m)
MeasuresFile pool file (Err UsesPool) = LacksPool (given pool) file
MeasuresFile pool file (Err (Pool e)) = RefusesPool pool e
MeasuresFile pool file (Err (Reading e)) = IsGiven pool × RefusesReading (given pool) file e
MeasuresFile pool file (Err _) = ⊥

-- a sum, or the greatest number of 64 bits where it doesn't fit
abbrev pub shown_sum : Option ℕ → ℕ
shown_sum sum = unwrap_or sum (2 ^ 64 - 1)

-- each number is the sum of its name
pub record IsShown (m : Measured) (c : ResbMeasured) : Type 0 where
  pub resources : c.resources ≡ m.resources
  pub tables : c.tables ≡ shown_sum m.sums.tables
  pub entries : c.entries ≡ shown_sum m.sums.entries
  pub key_bytes : c.key_bytes ≡ shown_sum m.sums.key_bytes
  pub text_bytes : c.text_bytes ≡ shown_sum m.sums.text_bytes
  pub binary_bytes : c.binary_bytes ≡ shown_sum m.sums.binary_bytes
  pub numbers : c.numbers ≡ shown_sum m.sums.numbers
  pub in_memory : (xs : List Piece) → IsMeasured m xs
      → c.tree_bytes ≡ shown_sum (fitting (tree_bytes xs))

-- each number is 0
pub record IsNothing (c : ResbMeasured) : Type 0 where
  pub resources : c.resources ≡ 0
  pub tables : c.tables ≡ 0
  pub entries : c.entries ≡ 0
  pub key_bytes : c.key_bytes ≡ 0
  pub text_bytes : c.text_bytes ≡ 0
  pub binary_bytes : c.binary_bytes ≡ 0
  pub numbers : c.numbers ≡ 0
  pub tree_bytes : c.tree_bytes ≡ 0

-- the sums of an answer, or zeros
abbrev pub ShowsSums : Result Measured Fault → ResbMeasured → Type 0
ShowsSums (Ok m) c = IsShown m c
ShowsSums (Err fault) c = IsNothing c

-- How a file is opened beside the pool bundle that is given, and how a refusal of it is told.
use Rattle.std.specs.Prelude.{◌≡◌, ℕ, List, Option, Some, option_map}
use Rattle.resb_format.specs.Error.{refusal_of}
use Rattle.resb_format.specs.declared.error.ReadingError.{ReadingError}
use Rattle.resb_pool_bundle.specs.Checks.{refusal_with}
use Rattle.resb_pool_bundle.specs.Pool.{Pool, pool_in}
use Rattle.resb_pool_bundle.specs.declared.pool_bundle.PoolBundle.{PoolBundle}
use Rattle.resb_read.specs.declared.file.Manner.TheVariants.{Beside}
use Rattle.resb_program.specs.Files.{LacksPool}
use Rattle.resb_program.specs.declared.bundle_file.BundleFile.{BundleFile}
use Rattle.resb_program.specs.declared.errors.FileError.{FileError}
use Rattle.resb_program.specs.declared.errors.FileError.TheVariants as error
use Rattle.resb_c.specs.Pools.{given, IsGiven, RefusesPool}
use Rattle.resb_c.specs.declared.fault.Fault.{Fault}
use Rattle.resb_c.specs.declared.fault.Fault.TheVariants as fault

-- that the file lacks a pool bundle; or it lacks none, and the refusal itself
abbrev pub IsToldAs : Option Pool → List ℕ → ReadingError → Fault → Type 0
IsToldAs pool file e fault.UsesPool = LacksPool pool file
IsToldAs pool file e (fault.Reading d) = (LacksPool pool file → ⊥) × (d ≡ e)
IsToldAs pool file e _ = ⊥

-- the file of these bytes, which lacks no pool bundle, opened beside that of these bytes
pub record IsSource (pool file : List ℕ) (source : BundleFile) : Type 0 where
  pub bundle : Option PoolBundle
  pub is_given : IsGiven pool
  pub lent : option_map pool_in bundle ≡ given pool
  pub manner : source.file.manner ≡ Beside bundle
  pub bytes : source.file.bytes.now ≡ file
  pub lacks_none : LacksPool (given pool) file → ⊥

-- the bytes are no pool bundle, the file lacks one, or a check of its head fails
abbrev pub HasNoSource : List ℕ → List ℕ → Fault → Type 0
HasNoSource pool bytes fault.UsesPool = LacksPool (given pool) bytes
HasNoSource pool bytes (fault.Pool e) = RefusesPool pool e
HasNoSource pool bytes (fault.Reading e) =
    IsGiven pool × (LacksPool (given pool) bytes → ⊥)
    × (refusal_with (given pool) bytes ≡ Some (refusal_of e))
HasNoSource pool bytes _ = ⊥

-- the fault of an error
abbrev pub fault_said : FileError → Fault
fault_said error.UsesPool = fault.UsesPool
fault_said (error.Larger n most) = fault.Larger n most
fault_said (error.LongKeys n most) = fault.LongKeys n most
fault_said (error.Reading e) = fault.Reading e

-- What is answered of a file that was opened beside the pool bundle that is given, or wasn't.
use Rattle.std.proofs.Common.{ℕ, List, ◌≡◌, Option, Some, Err, subst, inl}
use Rattle.std.specs.Prelude.{option_map}
use Rattle.resb_format.specs.Error.{refusal_of}
use Rattle.resb_pool_bundle.specs.Checks.{refusal_with}
use Rattle.resb_pool_bundle.specs.Pool.{pool_in}
use Rattle.resb_pool_bundle.specs.declared.pool_bundle.PoolBundle.{PoolBundle}
use Rattle.resb_tree.specs.declared.bundle.ResourceBundle.{ResourceBundle}
use Rattle.resb_read.specs.Files.{whole_in}
use Rattle.resb_read.specs.Roots.{Whole}
use Rattle.resb_read.specs.WithPool.{over}
use Rattle.resb_read.specs.declared.file.Manner.TheVariants.{Beside}
use Rattle.resb_read.proofs.FilesLemmas.{of_bytes}
use Rattle.resb_program.specs.Files.{IsBundleOf, LacksPool, OpensBeside, RefusesSize}
use Rattle.resb_program.specs.declared.bundle_file.BundleFile.{BundleFile}
use Rattle.resb_program.specs.declared.errors.FileError.{FileError}
use Rattle.resb_program.specs.declared.errors.FileError.TheVariants as error
use Rattle.resb_c.specs.Calls.{CountsFile}
use Rattle.resb_c.specs.Dumping.{HasNoBundle, IsBundleToDump}
use Rattle.resb_c.specs.Inner.Heads.{IsSource, HasNoSource, fault_said}
use Rattle.resb_c.specs.Measures.{MeasuresFile}
use Rattle.resb_c.specs.Pools.{given, IsGiven}
use Rattle.resb_c.specs.declared.fault.Fault.{Fault}
use Rattle.resb_c.specs.declared.fault.Fault.TheVariants as fault

-- what is so of a file that was opened is so of its bytes
pub of_source : (P : Whole → Type 0) (pool file : List ℕ) (s : BundleFile) → IsSource pool file s
    → P (whole_in s.file) → P (over (given pool) file)
of_source P pool file s is h =
    subst (λ g. P (over g file)) is.lent
    (of_bytes P s.file (Beside is.bundle) file is.manner is.bytes h)

-- why it isn't opened is told
pub no_source : (pool file : List ℕ) (lent : Option PoolBundle) (e : FileError) → IsGiven pool
    → option_map pool_in lent ≡ given pool → OpensBeside lent file (Err e)
    → HasNoSource pool file (fault_said e)
no_source pool file lent error.UsesPool is same h = subst (λ g. LacksPool g file) same h
no_source pool file lent (error.Reading e) is same (none, h) = (
  is,
  subst (λ g. LacksPool g file → ⊥) same none,
  subst (λ g. refusal_with g file ≡ Some (refusal_of e)) same h,
)
no_source pool file lent (error.Larger n most) is same h = absurd h
no_source pool file lent (error.LongKeys n most) is same h = absurd h

-- then it isn't counted
pub uncounted : (pool file : List ℕ) (f : Fault) → HasNoSource pool file f
    → CountsFile pool file (Err f)
uncounted pool file fault.UsesPool h = h
uncounted pool file (fault.Pool e) h = h
uncounted pool file (fault.Reading e) (is, none, h) = (is, (none, inl h))
uncounted pool file (fault.TooShort n) h = absurd h
uncounted pool file (fault.NotUtf8 n) h = absurd h
uncounted pool file (fault.Compiling e) h = absurd h
uncounted pool file (fault.Larger n most) h = absurd h
uncounted pool file (fault.LongKeys n most) h = absurd h
uncounted pool file fault.BadOptions h = absurd h
uncounted pool file fault.NotFound h = absurd h
uncounted pool file fault.OtherKind h = absurd h
uncounted pool file (fault.Printing e) h = absurd h
uncounted pool file (fault.Zone e) h = absurd h
uncounted pool file (fault.Swapping e) h = absurd h

-- nor measured
pub unmeasured : (pool file : List ℕ) (f : Fault) → HasNoSource pool file f
    → MeasuresFile pool file (Err f)
unmeasured pool file fault.UsesPool h = h
unmeasured pool file (fault.Pool e) h = h
unmeasured pool file (fault.Reading e) (is, none, h) = (is, (none, inl h))
unmeasured pool file (fault.TooShort n) h = absurd h
unmeasured pool file (fault.NotUtf8 n) h = absurd h
unmeasured pool file (fault.Compiling e) h = absurd h
unmeasured pool file (fault.Larger n most) h = absurd h
unmeasured pool file (fault.LongKeys n most) h = absurd h
unmeasured pool file fault.BadOptions h = absurd h
unmeasured pool file fault.NotFound h = absurd h
unmeasured pool file fault.OtherKind h = absurd h
unmeasured pool file (fault.Printing e) h = absurd h
unmeasured pool file (fault.Zone e) h = absurd h
unmeasured pool file (fault.Swapping e) h = absurd h

-- nor is a bundle had of it
pub unbundled : (pool file : List ℕ) (limit : Option ℕ) (f : Fault) → HasNoSource pool file f
    → HasNoBundle pool file limit f
unbundled pool file limit fault.UsesPool h = h
unbundled pool file limit (fault.Pool e) h = h
unbundled pool file limit (fault.Reading e) (is, none, h) = (is, (none, inl h))
unbundled pool file limit (fault.TooShort n) h = absurd h
unbundled pool file limit (fault.NotUtf8 n) h = absurd h
unbundled pool file limit (fault.Compiling e) h = absurd h
unbundled pool file limit (fault.Larger n most) h = absurd h
unbundled pool file limit (fault.LongKeys n most) h = absurd h
unbundled pool file limit fault.BadOptions h = absurd h
unbundled pool file limit fault.NotFound h = absurd h
unbundled pool file limit fault.OtherKind h = absurd h
unbundled pool file limit (fault.Printing e) h = absurd h
unbundled pool file limit (fault.Zone e) h = absurd h
unbundled pool file limit (fault.Swapping e) h = absurd h

-- the bundle of a file that was opened
pub bundle_had : (pool file name : List ℕ) (limit : Option ℕ) (s : BundleFile) (b : ResourceBundle)
    → IsSource pool file s → IsBundleOf (whole_in s.file) s.file.bytes.now name limit b
    → IsBundleToDump pool file name limit b
bundle_had pool file name limit s b is h = (
  is.is_given,
  subst (λ bytes. IsBundleOf (over (given pool) file) bytes name limit b) is.bytes
      (of_source (λ w. IsBundleOf w s.file.bytes.now name limit b) pool file s is h),
)

-- why it has none
pub no_bundle : (pool file : List ℕ) (limit : Option ℕ) (s : BundleFile) (e : FileError)
    → IsSource pool file s → RefusesSize (whole_in s.file) limit e
    → HasNoBundle pool file limit (fault_said e)
no_bundle pool file limit s e is h =
    told e (of_source (λ w. RefusesSize w limit e) pool file s is h)
  where
    told : (e : FileError) → RefusesSize (over (given pool) file) limit e
        → HasNoBundle pool file limit (fault_said e)
    told error.UsesPool k = absurd k
    told (error.Reading e) k = (is.is_given, (is.lacks_none, k))
    told (error.Larger n most) k = (is.is_given, k)
    told (error.LongKeys n most) k = (is.is_given, k)

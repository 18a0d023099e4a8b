-- What is answered of a file, alone or beside the pool bundle that is given.
--     LacksPool pool bytes    the file uses a pool bundle, and none is given
--     RefusesReading pool bytes e     the reader refuses the file, which lacks no pool bundle
--     OpensBeside pool bytes r    what opening answers
--     FitsIn w limit          the file's tree and keys are no larger than they may be
--     RefusesSize w limit e   why it isn't read, or is too large
--     IsBundleOf w file name limit b  its bundle
use Rattle.std.specs.Prelude.{◌≡◌, ◌≤◌, ◌%◌, ◌^◌, ◌==◌, ℕ, List, true, Option, Some, None}
use Rattle.std.specs.Prelude.{Result, Ok, Err, IfSome, unwrap_or, option_map}
use Rattle.resb_tree.specs.Bundle.{name_of, root_of}
use Rattle.resb_tree.specs.View.{tree_of}
use Rattle.resb_tree.specs.declared.bundle.ResourceBundle.{ResourceBundle}
use Rattle.resb_tree.specs.declared.resource.Resource.{Resource}
use Rattle.resb_format.specs.Error.{refusal_of}
use Rattle.resb_format.specs.declared.error.ReadingError.{ReadingError}
use Rattle.resb_walk.specs.Pieces.{Piece}
use Rattle.resb_walk.specs.Sums.{fitting}
use Rattle.resb_walk.specs.TreeBytes.{tree_bytes}
use Rattle.resb_pool_bundle.specs.Checks.{head_refusal, refusal_with}
use Rattle.resb_pool_bundle.specs.Fields.{uses_pool, attributes_in}
use Rattle.resb_pool_bundle.specs.Pool.{Pool, pool_in}
use Rattle.resb_pool_bundle.specs.declared.pool_bundle.PoolBundle.{PoolBundle}
use Rattle.resb_read.specs.Roots.{Whole, AnswersTreeOf, RefusesWhole}
use Rattle.resb_read.specs.Measuring.{HoldsPieces, TakesMoreOf, TreeFits, key_bytes}
use Rattle.resb_read.specs.WithPool.{over}
use Rattle.resb_read.specs.declared.file.Manner.TheVariants.{Beside}
use Rattle.resb_program.specs.declared.bundle_file.BundleFile.{BundleFile}
use Rattle.resb_program.specs.declared.errors.FileError.{FileError}
use Rattle.resb_program.specs.declared.errors.FileError.TheVariants.{UsesPool, Larger, LongKeys}
use Rattle.resb_program.specs.declared.errors.FileError.TheVariants.{Reading}

-- the file's head passes its checks and says that the file uses a pool bundle, and none is given
pub record LacksPool (pool : Option Pool) (bytes : List ℕ) : Type 0 where
  pub none : pool ≡ None
  pub passes : head_refusal bytes ≡ None
  pub uses : uses_pool bytes ≡ true

-- the reader refuses the file, which doesn't lack a pool bundle
abbrev pub RefusesReading : Option Pool → List ℕ → ReadingError → Type 0
RefusesReading pool bytes e = (LacksPool pool bytes → ⊥) × RefusesWhole (over pool bytes) e

-- why there is no head: its own refusal, or a pool bundle is lacking
abbrev pub LacksHead : Option Pool → List ℕ → FileError → Type 0
LacksHead pool bytes UsesPool = LacksPool pool bytes
LacksHead pool bytes (Reading e) = head_refusal bytes ≡ Some (refusal_of e)
LacksHead pool bytes (Larger n limit) = ⊥
LacksHead pool bytes (LongKeys n limit) = ⊥

-- the file is opened, which doesn't lack a pool bundle; or it lacks one; or the first check of its
-- head that fails beside what is given
abbrev pub OpensBeside : Option PoolBundle → List ℕ → Result BundleFile FileError → Type 0
OpensBeside pool bytes (Ok source) =
    (source.file.manner ≡ Beside pool) × (source.file.bytes.now ≡ bytes)
    × (LacksPool (option_map pool_in pool) bytes → ⊥)
OpensBeside pool bytes (Err UsesPool) = LacksPool (option_map pool_in pool) bytes
OpensBeside pool bytes (Err (Reading e)) =
    (LacksPool (option_map pool_in pool) bytes → ⊥)
    × (refusal_with (option_map pool_in pool) bytes ≡ Some (refusal_of e))
OpensBeside pool bytes (Err (Larger n limit)) = ⊥
OpensBeside pool bytes (Err (LongKeys n limit)) = ⊥

-- the most bytes of keys, since each may be compared: those of the limit, and 2^28 without one
abbrev pub key_limit : Option ℕ → ℕ
key_limit limit = unwrap_or limit (2 ^ 28)

-- the file's tree takes no more bytes than the limit, if there is one, and the keys of its entries
-- no more than they may
abbrev pub FitsIn : Whole → Option ℕ → Type 0
FitsIn w limit =
    (xs : List Piece) × HoldsPieces w xs × IfSome limit (λ most. tree_bytes xs ≤ most)
    × (key_bytes xs ≤ key_limit limit)

-- in this sum the pieces of the file's tree have so many bytes, more than the limit; none stands
-- for 2^64 and more
pub record IsOver (sum : List Piece → ℕ) (w : Whole) (limit : ℕ) (taken : Option ℕ) : Type 0 where
  pub more : TakesMoreOf sum w limit
  pub said : taken ≡ fitting (sum more.holding)

-- the reader's refusal, or that of a tree that takes more bytes than the limit, if there is one; or
-- it takes no more, and the keys of its entries take more than they may
abbrev pub RefusesSize : Whole → Option ℕ → FileError → Type 0
RefusesSize w limit UsesPool = ⊥
RefusesSize w limit (Reading e) = RefusesWhole w e
RefusesSize w limit (Larger n most) = (limit ≡ Some most) × IsOver tree_bytes w most n
RefusesSize w limit (LongKeys n most) =
    (most ≡ key_limit limit) × IfSome limit (TreeFits w) × IsOver key_bytes w most n

-- the bundle has this name, the file's tree, which fits, and the fallback flag of the file's head:
-- the lowest bit of the attributes turns fallback off
pub record IsBundleOf (w : Whole) (bytes name : List ℕ) (limit : Option ℕ) (b : ResourceBundle)
    : Type 0 where
  pub tree : Resource
  pub reads : AnswersTreeOf w (Ok tree)
  pub within : FitsIn w limit
  pub named : name_of b ≡ name
  pub root : root_of b ≡ tree_of tree
  pub flag : b.is_locale_fallback_enabled ≡ (attributes_in bytes % 2 == 0)

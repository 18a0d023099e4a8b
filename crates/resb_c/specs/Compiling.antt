-- What compiling a text to a buffer answers, and leaves there.
--     IsWay o way             the way of compiling is the one that the options ask for
--     WritesBy way text old new r
--                             what compiling in a way answers, and leaves in the buffer
--     CompilesInto o text old new r
--                             what compiling by options answers, and leaves in the buffer
use Rattle.std.specs.Prelude.{◌≡◌, ◌==◌, ℕ, List, Option, Some, None, Result, Ok, Err, IsUtf8}
use Rattle.std.specs.Prelude.{if◌then◌else◌}
use Rattle.std.specs.Borrow.{Bor}
use Rattle.resb_format.specs.Error.{IsWantOfMemory}
use Rattle.resb_pool_bundle.specs.declared.pool_bundle.PoolBundle.{PoolBundle}
use Rattle.resb_pool.specs.declared.packing.Packing.{Packing}
use Rattle.resb_pool.specs.declared.packing.Packing.TheVariants.{Plain, Compact}
use Rattle.resb_write.specs.Layouts.{pool_of}
use Rattle.resb_compile.specs.Compiling.{IsCompiledBy, IsRefusedBy, over}
use Rattle.resb_compile.specs.declared.compiling.Compile.{Compile}
use Rattle.resb_c.specs.Calls.{Fills, IsNotUtf8}
use Rattle.resb_c.specs.Options.{limit_in, text_form_in}
use Rattle.resb_c.specs.Pools.{given, IsGiven, RefusesPool}
use Rattle.resb_c.specs.declared.fault.Fault.{Fault}
use Rattle.resb_c.specs.declared.fault.Fault.TheVariants.{TooShort, NotUtf8, Compiling}
use Rattle.resb_c.specs.declared.fault.Fault.TheVariants.{BadOptions, Pool, Reading}
use Rattle.resb_c.specs.declared.options.ResbOptions.{ResbOptions}

-- whether the files are compact
abbrev pub packing_in : ResbOptions → Packing
packing_in o = if o.compact == 0 then Plain else Compact

-- a way of compiling is the one that the options ask for: it has their form and packing, lies over
-- the pool bundle of their bytes, if there are any, keeps to their limit, and has no rules
pub record IsWay (o : ResbOptions) (way : Compile) : Type 0 where
  pub form : text_form_in o ≡ Some way.form
  pub packing : way.layout.packing ≡ packing_in o
  pub is_given : IsGiven o.pool.now
  pub pool : pool_of way.layout ≡ given o.pool.now
  pub rules : way.rules ≡ None
  pub limit : way.limit ≡ limit_in o

-- the text's file is in the buffer, or would be if it had room; or the text has no file, or its
-- reading makes more bytes than the way's limit
abbrev pub WritesBy : Compile → List ℕ → List ℕ → List ℕ → Result ℕ Fault → Type 0
WritesBy way text old new (Ok n) =
    (file : List ℕ) × IsCompiledBy way text file × Fills file old new (Ok n)
WritesBy way text old new (Err (TooShort n)) =
    (file : List ℕ) × IsCompiledBy way text file × Fills file old new (Err n)
WritesBy way text old new (Err (Compiling e)) = IsRefusedBy way text e × (new ≡ old)
WritesBy way text old new (Err _) = ⊥

-- so it answers over this pool bundle, or memory is wanted to open that
abbrev pub WritesBeside
    : Compile → PoolBundle → List ℕ → List ℕ → List ℕ → Result ℕ Fault → Type 0
WritesBeside way bundle text old new (Err (Reading e)) = IsWantOfMemory e × (new ≡ old)
WritesBeside way bundle text old new r =
    (pool : Bor PoolBundle) × (pool.now ≡ bundle) × WritesBy (over way pool) text old new r

-- compiling in the way that the options ask for answers so
abbrev pub WritesByOptions
    : ResbOptions → List ℕ → List ℕ → List ℕ → Result ℕ Fault → Type 0
WritesByOptions o text old new r =
    IsUtf8 text × ((way : Compile) × IsWay o way × WritesBy way text old new r)

-- that; or the options, then the text, then the bytes of the pool bundle are refused; or memory is
-- wanted for the pool bundle
abbrev pub CompilesInto : ResbOptions → List ℕ → List ℕ → List ℕ → Result ℕ Fault → Type 0
CompilesInto o text old new (Err BadOptions) = (text_form_in o ≡ None) × (new ≡ old)
CompilesInto o text old new (Err (NotUtf8 n)) = IsNotUtf8 text n × (new ≡ old)
CompilesInto o text old new (Err (Pool e)) = RefusesPool o.pool.now e × (new ≡ old)
CompilesInto o text old new (Err (Reading e)) = IsWantOfMemory e × (new ≡ old)
CompilesInto o text old new r = WritesByOptions o text old new r

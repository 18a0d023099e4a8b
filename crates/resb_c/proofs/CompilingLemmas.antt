-- What is compiled in a way that the options ask for is compiled by the options.
use Rattle.std.proofs.Common.{◌≡◌, ◌∙◌, ℕ, List, Bor, Option, Some, None, Ok, Err, ap, sym, subst}
use Rattle.std.specs.Prelude.{IsUtf8, Result, option_map}
use Rattle.resb_pool_bundle.specs.Pool.{pool_in}
use Rattle.resb_pool_bundle.specs.declared.pool_bundle.PoolBundle.{PoolBundle}
use Rattle.resb_compile.specs.Compiling.{over}
use Rattle.resb_compile.specs.declared.compiling.Compile.{Compile}
use Rattle.resb_compile.specs.declared.compiling.TextForm.{TextForm}
use Rattle.resb_c.specs.Compiling.{packing_in, CompilesInto, IsWay, WritesBeside, WritesBy}
use Rattle.resb_c.specs.Options.{limit_in, text_form_in}
use Rattle.resb_c.specs.Pools.{given, IsGiven}
use Rattle.resb_c.specs.declared.fault.Fault.{Fault}
use Rattle.resb_c.specs.declared.fault.Fault.TheVariants as fault
use Rattle.resb_c.specs.declared.options.ResbOptions.{ResbOptions}

pub compiled : (o : ResbOptions) (text old new : List ℕ) (way : Compile) (r : Result ℕ Fault)
    → IsUtf8 text → IsWay o way → WritesBy way text old new r → CompilesInto o text old new r
compiled o text old new way (Ok n) is asked h = (is, (way, asked, h))
compiled o text old new way (Err (fault.TooShort n)) is asked h = (is, (way, asked, h))
compiled o text old new way (Err (fault.Compiling e)) is asked h = (is, (way, asked, h))
compiled o text old new way (Err (fault.NotUtf8 n)) is asked h = absurd h
compiled o text old new way (Err (fault.Reading e)) is asked h = absurd h
compiled o text old new way (Err (fault.Larger n most)) is asked h = absurd h
compiled o text old new way (Err (fault.LongKeys n most)) is asked h = absurd h
compiled o text old new way (Err fault.UsesPool) is asked h = absurd h
compiled o text old new way (Err (fault.Pool e)) is asked h = absurd h
compiled o text old new way (Err fault.NotFound) is asked h = absurd h
compiled o text old new way (Err fault.OtherKind) is asked h = absurd h
compiled o text old new way (Err (fault.Printing e)) is asked h = absurd h
compiled o text old new way (Err (fault.Zone e)) is asked h = absurd h
compiled o text old new way (Err (fault.Swapping e)) is asked h = absurd h
compiled o text old new way (Err fault.BadOptions) is asked h = absurd h

-- a way that has what the options say, over no pool bundle
pub record IsAlone (o : ResbOptions) (way : Compile) : Type 0 where
  pub form : text_form_in o ≡ Some way.form
  pub packing : way.layout.packing ≡ packing_in o
  pub alone : way.layout.pool ≡ None
  pub rules : way.rules ≡ None
  pub limit : way.limit ≡ limit_in o

module _ (o : ResbOptions) (way : Compile) (is : IsAlone o way) (right : IsGiven o.pool.now) where
  -- is the one that they ask for where no pool bundle is given
  pub asked_alone : None ≡ given o.pool.now → IsWay o way
  asked_alone none = record {
    form = is.form;
    packing = is.packing;
    is_given = right;
    pool = ap (option_map (λ p. pool_in p.now)) is.alone ∙ none;
    rules = is.rules;
    limit = is.limit;
  }

  -- and over the pool bundle where one is
  pub asked_over : (bundle : PoolBundle) (pool : Bor PoolBundle) → pool.now ≡ bundle
      → Some (pool_in bundle) ≡ given o.pool.now → IsWay o (over way pool)
  asked_over bundle pool at some = record {
    form = is.form;
    packing = is.packing;
    is_given = right;
    pool = ap (λ b. Some (pool_in b)) at ∙ some;
    rules = is.rules;
    limit = is.limit;
  }

  -- so what is compiled beside it is compiled by the options
  pub compiled_beside : (bundle : PoolBundle) (text old new : List ℕ) (r : Result ℕ Fault)
      → IsUtf8 text → Some (pool_in bundle) ≡ given o.pool.now
      → WritesBeside way bundle text old new r → CompilesInto o text old new r
  compiled_beside bundle text old new (Err (fault.Reading e)) u some h = h
  compiled_beside bundle text old new (Ok n) u some (pool, at, h) =
      compiled o text old new (over way pool) (Ok n) u (asked_over bundle pool at some) h
  compiled_beside bundle text old new (Err (fault.TooShort n)) u some (pool, at, h) =
      compiled o text old new (over way pool) (Err (fault.TooShort n)) u
      (asked_over bundle pool at some) h
  compiled_beside bundle text old new (Err (fault.Compiling e)) u some (pool, at, h) =
      compiled o text old new (over way pool) (Err (fault.Compiling e)) u
      (asked_over bundle pool at some) h
  compiled_beside bundle text old new (Err (fault.NotUtf8 n)) u some (pool, at, h) = absurd h
  compiled_beside bundle text old new (Err (fault.Larger n most)) u some (pool, at, h) = absurd h
  compiled_beside bundle text old new (Err (fault.LongKeys n most)) u some (pool, at, h) = absurd h
  compiled_beside bundle text old new (Err fault.UsesPool) u some (pool, at, h) = absurd h
  compiled_beside bundle text old new (Err (fault.Pool e)) u some (pool, at, h) = absurd h
  compiled_beside bundle text old new (Err fault.NotFound) u some (pool, at, h) = absurd h
  compiled_beside bundle text old new (Err fault.OtherKind) u some (pool, at, h) = absurd h
  compiled_beside bundle text old new (Err (fault.Printing e)) u some (pool, at, h) = absurd h
  compiled_beside bundle text old new (Err (fault.Zone e)) u some (pool, at, h) = absurd h
  compiled_beside bundle text old new (Err (fault.Swapping e)) u some (pool, at, h) = absurd h
  compiled_beside bundle text old new (Err fault.BadOptions) u some (pool, at, h) = absurd h

  -- so is the text that was told to be UTF-8
  pub compiled_in : (p : Option PoolBundle) (bundle : PoolBundle) (own text old new : List ℕ)
      (r : Result ℕ Fault) → own ≡ text → IsUtf8 text → p ≡ Some bundle
      → option_map pool_in p ≡ given o.pool.now → WritesBeside way bundle own old new r
      → CompilesInto o text old new r
  compiled_in p bundle own text old new r same u at some h =
      compiled_beside bundle text old new r u (sym (ap (option_map pool_in) at) ∙ some)
      (subst (λ t. WritesBeside way bundle t old new r) same h)

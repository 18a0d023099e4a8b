-- Why no pool bundle is made.
--     plan_fault p            the answer where strings have no plan, for the reason p
--     strings_fault S         why the strings S have no plan
--     bundle_fault b          the first fault of a bundle
--     pool_fault q bs S       the first fault of bundles that give the records S
--     RefusesBundle b e       e may be the answer where the bundle b is added
--     RefusesPoolBy q bs e    e may be the answer where the pool bundle of bs is made
--     message_of e            the text that it prints as
use Rattle.std.specs.Prelude.{◌≡◌, ℕ, ◌^◌, List, ◌++◌, length, codes, nat_le, nat_lt}
use Rattle.std.specs.Prelude.{Option, Some, None, option_map, if◌then◌else◌}
use Rattle.std.specs.List.{list_any}
use Rattle.std.specs.Option.{option_or}
use Rattle.std.specs.Fmt.{decimal}
use Rattle.resb_tree.specs.LayingOrder.{texts_of}
use Rattle.resb_layout.specs.KeyBlock.{key_bytes}
use Rattle.resb_layout.specs.TreeFaults.{has_nul}
use Rattle.resb_pool.specs.Plan.{first_too_long, texts_size}
use Rattle.resb_pool.specs.declared.error.PlanError.{PlanError}
use Rattle.resb_pool.specs.declared.error.PlanError.TheVariants as planning
use Rattle.resb_pool.specs.declared.packing.Packing.{Packing}
use Rattle.resb_pool_maker.specs.PoolOf.{Bundle, GiveRecords, pool_keys_by, used_keys}
use Rattle.resb_pool_maker.specs.declared.error.PoolMakerError.{PoolMakerError}
use Rattle.resb_pool_maker.specs.declared.error.PoolMakerError.TheVariants.{StringTooLong}
use Rattle.resb_pool_maker.specs.declared.error.PoolMakerError.TheVariants.{StringsTooLarge}
use Rattle.resb_pool_maker.specs.declared.error.PoolMakerError.TheVariants.{KeyWithNul}
use Rattle.resb_pool_maker.specs.declared.error.PoolMakerError.TheVariants.{KeysTooLarge}
use Rattle.resb_pool_maker.specs.declared.error.PoolMakerError.TheVariants.{OutOfMemory}

-- which refusal a plan's is
abbrev pub plan_fault : PlanError → PoolMakerError
plan_fault (planning.StringTooLong n) = StringTooLong n
plan_fault planning.TooLarge = StringsTooLarge
plan_fault planning.OutOfMemory = OutOfMemory

-- the first string of more than 4294967295 units, else 2^28 and more with 16 for each string
abbrev pub strings_fault : List (List ℕ) → Option PoolMakerError
strings_fault S =
    option_or (option_map StringTooLong (first_too_long S))
    (if nat_le (2 ^ 28) (texts_size S) then Some StringsTooLarge else None)

-- that of its strings, else a used key that holds U+0000
abbrev pub bundle_fault : Bundle → Option PoolMakerError
bundle_fault b =
    option_or (strings_fault (texts_of b.tree))
    (if list_any has_nul (used_keys b) then Some KeyWithNul else None)

-- keys of which some would stand where no position of 31 bits reaches, else that of the records
abbrev pub pool_fault : Packing → List Bundle → List (List ℕ) → Option PoolMakerError
pool_fault q bs S =
    option_or (if nat_lt (2 ^ 31) (length (key_bytes (pool_keys_by q bs))) then Some KeysTooLarge
    else None) (strings_fault S)

-- want of memory, or the bundle's first fault
pub data RefusesBundle (b : Bundle) : PoolMakerError → Type 0 where
  bundle_memory : RefusesBundle b OutOfMemory
  bundle_first : {e : PoolMakerError} → bundle_fault b ≡ Some e → RefusesBundle b e

-- want of memory, or the first fault of the bundles and the records that they give
pub data RefusesPoolBy (packing : Packing) (bs : List Bundle) : PoolMakerError → Type 0 where
  pool_memory : RefusesPoolBy packing bs OutOfMemory
  pool_first : {S : List (List ℕ)} {e : PoolMakerError} → GiveRecords bs S
      → pool_fault packing bs S ≡ Some e → RefusesPoolBy packing bs e

-- what each refusal prints
abbrev pub message_of : PoolMakerError → List ℕ
message_of (StringTooLong n) =
    codes "string of " ++ (decimal n ++ codes " units, more than 4294967295")
message_of StringsTooLarge = codes "strings too large"
message_of KeyWithNul = codes "key contains U+0000"
message_of KeysTooLarge = codes "keys too large"
message_of OutOfMemory = codes "out of memory"

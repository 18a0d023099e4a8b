-- Which refusal is the first.
use Rattle.std.proofs.Common.{◌≡◌, ℕ, ◌^◌, ◌<◌, ◌≤◌, List, length, true, Some, None, refl, sym}
use Rattle.std.proofs.Common.{ap, subst, inl, inr, ◌⊎◌}
use Rattle.std.specs.Prelude.{nat_le, if◌then◌else◌, option_map}
use Rattle.std.specs.List.{list_any}
use Rattle.std.specs.Option.{option_or}
use Rattle.std.proofs.lemmas.Bool.{le-leb, lt-leb, lt-ltb, le-ltb}
use Rattle.resb_tree.specs.LayingOrder.{texts_of}
use Rattle.resb_layout.specs.KeyBlock.{key_bytes}
use Rattle.resb_layout.specs.TreeFaults.{has_nul}
use Rattle.resb_pool.specs.Plan.{NotPlanned, no_memory, too_long, too_large, texts_size}
use Rattle.resb_pool.specs.Shared.{ArePlanned}
use Rattle.resb_pool.specs.declared.error.PlanError.{PlanError}
use Rattle.resb_pool.specs.declared.packing.Packing.{Packing}
use Rattle.resb_pool_maker.specs.PoolFault.{plan_fault, strings_fault, RefusesBundle}
use Rattle.resb_pool_maker.specs.PoolFault.{bundle_memory, bundle_first, RefusesPoolBy}
use Rattle.resb_pool_maker.specs.PoolFault.{pool_memory, pool_first}
use Rattle.resb_pool_maker.specs.PoolOf.{Bundle, GiveRecords, pool_keys_by, used_keys}
use Rattle.resb_pool_maker.specs.declared.error.PoolMakerError.TheVariants.{StringTooLong}
use Rattle.resb_pool_maker.specs.declared.error.PoolMakerError.TheVariants.{StringsTooLarge}
use Rattle.resb_pool_maker.specs.declared.error.PoolMakerError.TheVariants.{KeyWithNul}
use Rattle.resb_pool_maker.specs.declared.error.PoolMakerError.TheVariants.{KeysTooLarge}
use Rattle.resb_pool_maker.specs.declared.error.PoolMakerError.TheVariants.{OutOfMemory}

-- strings without a plan have the fault that is answered, unless memory is wanted
strings_refused : (S : List (List ℕ)) (p : PlanError) → NotPlanned S p
    → (plan_fault p ≡ OutOfMemory) ⊎ (strings_fault S ≡ Some (plan_fault p))
strings_refused S _ no_memory = inl refl
strings_refused S _ (too_long e) =
    inr (ap (λ o. option_or (option_map StringTooLong o)
    (if nat_le (2 ^ 28) (texts_size S) then Some StringsTooLarge else None)) e)
strings_refused S _ (too_large e h) =
    let large = le-leb (2 ^ 28) (texts_size S) h in
    inr (λ i. option_or (option_map StringTooLong (e i))
    (if large i then Some StringsTooLarge else None))

-- strings with a plan have none
no_fault : (S : List (List ℕ)) → ArePlanned S → strings_fault S ≡ None
no_fault S h =
    let small = lt-leb (2 ^ 28) (texts_size S) h.1 in
    λ i. option_or (option_map StringTooLong (h.0 i))
    (if small i then Some StringsTooLarge else None)

pub bundle_strings : (b : Bundle) (p : PlanError) → NotPlanned (texts_of b.tree) p
    → RefusesBundle b (plan_fault p)
bundle_strings b p h = elim (strings_refused (texts_of b.tree) p h) [
  | inl e ↦ subst (RefusesBundle b) (sym e) bundle_memory
  | inr e ↦ bundle_first
      (ap (λ o. option_or o (if list_any has_nul (used_keys b) then Some KeyWithNul else None)) e)
]

pub bundle_key : (b : Bundle) → ArePlanned (texts_of b.tree)
    → list_any has_nul (used_keys b) ≡ true → RefusesBundle b KeyWithNul
bundle_key b planned h =
    let none = no_fault (texts_of b.tree) planned in
    bundle_first (λ i. option_or (none i) (if h i then Some KeyWithNul else None))

module _ (q : Packing) (bs : List Bundle) {S : List (List ℕ)} (given : GiveRecords bs S) where
  pub pool_keys_far : 2 ^ 31 < length (key_bytes (pool_keys_by q bs))
      → RefusesPoolBy q bs KeysTooLarge
  pool_keys_far h =
      let far = lt-ltb (2 ^ 31) (length (key_bytes (pool_keys_by q bs))) h in
      pool_first given
      (ap (λ b. option_or (if b then Some KeysTooLarge else None) (strings_fault S)) far)

  pub pool_strings : length (key_bytes (pool_keys_by q bs)) ≤ 2 ^ 31 → (p : PlanError)
      → NotPlanned S p → RefusesPoolBy q bs (plan_fault p)
  pool_strings near p h = elim (strings_refused S p h) [
    | inl e ↦ subst (RefusesPoolBy q bs) (sym e) pool_memory
    | inr e ↦ pool_first given
        (let no = le-ltb (2 ^ 31) (length (key_bytes (pool_keys_by q bs))) near in
        λ i. option_or (if no i then Some KeysTooLarge else None) (e i))
  ]

-- Why a tree is refused, by the step that found it.
use Rattle.std.proofs.Common.{◌≡◌, ℕ, ◌+◌, ◌^◌, ◌<◌, List, Some, None, ◌⊎◌, inl, inr, sym, ◌∙◌, ap}
use Rattle.std.proofs.Common.{length, Option}
use Rattle.std.proofs.Common.{subst, arith}
use Rattle.std.specs.List.{flat_map}
use Rattle.std.specs.Option.{option_or}
use Rattle.resb_tree.specs.Tree.{Tree}
use Rattle.resb_format.specs.Units.{units, size}
use Rattle.resb_layout.specs.WritingFault.{WritingFault, out_of_memory}
use Rattle.resb_pool.specs.declared.error.PlanError.{PlanError}
use Rattle.resb_pool.specs.Plan.{NotPlanned, no_memory as no_memory_to_plan, too_long}
use Rattle.resb_pool.specs.Plan.{too_large as too_large_to_plan, texts_size, first_too_long}
use Rattle.resb_tree.specs.LayingOrder.{laying_order, text_in, texts_of}
use Rattle.resb_layout.specs.KeyBlock.{used}
use Rattle.resb_tree.specs.LayingOrder.{keys_of}
use Rattle.resb_layout.specs.PlainSize.{list_size, resources_size}
use Rattle.resb_layout.specs.TreeFaults.{key_fault, tree_fault, RefusesWriting, no_memory}
use Rattle.resb_layout.specs.TreeFaults.{at_the_first}
use Rattle.resb_layout.specs.TreeFaults.{too_large}
use Rattle.resb_pool.specs.declared.packing.Packing.{Packing}
use Rattle.resb_write.specs.FaultOf.{plan_fault}
use Rattle.resb_write.specs.Inner.Sizes.{size_fault, IsTooMuch, at_fault}
use Rattle.resb_write.specs.Inner.Sizes.{too_large as too_large_sizes}
use Rattle.resb_write.proofs.Room.{small_texts_fit, texts_within, small_sizes, pool_room}
use Rattle.resb_write.proofs.Room.{units_room}
use Rattle.resb_write.proofs.Blocks.{laying_order_long}
use Rattle.resb_pool_bundle.specs.Pool.{Pool}
use Rattle.resb_lent.specs.PlanWithPool.{lacking, NotPlannedWithBy, own_fault}
use Rattle.resb_lent.specs.PlanWithPool.{no_memory as no_memory_beside, too_far as too_far_beside}
use Rattle.resb_lent.proofs.PlanRoom.{lacking_sum, limit_within, own_within}
use Rattle.resb_write.specs.WrittenWith.{RefusesWritingWith, as_alone, too_far}
use Rattle.resb_write.specs.Inner.Beside.{IsUnplanned}
use Rattle.resb_write.specs.Layouts.{RefusesBy}

module _ (t : Tree) (ks : List (List ℕ)) where
  pub key_refused : (us : List (List ℕ)) (f : WritingFault) → us ≡ keys_of t → (f ≡ out_of_memory)
      ⊎ (key_fault us (used us ks) ≡ Some f) → RefusesWriting t ks f
  key_refused us f e (inl m) = subst (RefusesWriting t ks) (sym m) no_memory
  key_refused us f e (inr h) =
      let k : key_fault (keys_of t) (used (keys_of t) ks) ≡ Some f =
      (λ i. key_fault (sym e i) (used (sym e i) ks)) ∙ h in
      at_the_first (ap (λ o. option_or o (size_fault (laying_order t))) k)

  module _ (us js : List (List ℕ)) (us_are : us ≡ keys_of t) (js_are : js ≡ used us ks)
      (no_key : key_fault us js ≡ None) where
    pub no_key_fault : key_fault (keys_of t) (used (keys_of t) ks) ≡ None
    no_key_fault = (λ i. key_fault (sym us_are i) (used (sym us_are i) ks))
        ∙ ap (key_fault us) (sym js_are) ∙ no_key

    only_sizes : tree_fault t ks ≡ size_fault (laying_order t)
    only_sizes = ap (λ o. option_or o (size_fault (laying_order t))) no_key_fault

    pub size_refused : (f : WritingFault) → IsTooMuch (laying_order t) ks f → RefusesWriting t ks f
    size_refused f (at_fault h) = at_the_first (only_sizes ∙ h)
    size_refused f (too_large_sizes h l) = too_large (only_sizes ∙ h) l

  -- what is small enough is planned, memory aside
  pub plan_refused : (S : List (List ℕ)) (e : PlanError) → S ≡ texts_of t
      → list_size ks + resources_size (laying_order t) < 2 ^ 28 → NotPlanned S e
      → RefusesWriting t ks (plan_fault e)
  plan_refused S e is small no_memory_to_plan = no_memory
  plan_refused S e is small (too_long {n} h) =
      let none = small_texts_fit (flat_map text_in (laying_order t)) (omega (
        arith,
        texts_within (laying_order t),
        small,
      )) in
      let no : Some n ≡ None = sym h ∙ ap first_too_long is ∙ none in
      cc
  plan_refused S e is small (too_large_to_plan h l) =
      absurd (omega (arith, texts_within (laying_order t), small, l, ap texts_size is))

-- what is not planned over a pool
module _ (t : Tree) (ks : List (List ℕ)) (pool : Pool)
    (no_key : key_fault (keys_of t) (used (keys_of t) ks) ≡ None)
    (small : list_size ks + resources_size (laying_order t) < 2 ^ 28) where
  texts_small : (os : List (Option ℕ)) → texts_size (lacking (texts_of t) os) < 2 ^ 28
  texts_small os = omega (
    arith,
    lacking_sum (λ s. 16 + length (units s)) (texts_of t) os,
    texts_within (laying_order t),
    small,
  )

  no_fault : tree_fault t ks ≡ None
  no_fault =
      ap (λ o. option_or o (size_fault (laying_order t))) no_key
      ∙ small_sizes (laying_order t) (omega (arith, small))

  own_refused : (os : List (Option ℕ)) (e : PlanError) → NotPlanned (lacking (texts_of t) os) e
      → RefusesWritingWith pool t ks (plan_fault e)
  own_refused os e no_memory_to_plan = as_alone no_memory
  own_refused os e (too_long {n} h) =
      let none = small_texts_fit (lacking (texts_of t) os) (texts_small os) in
      let no : Some n ≡ None = sym h ∙ none in
      cc
  own_refused os e (too_large_to_plan h l) = absurd (omega (arith, texts_small os, l))

  not_planned : (q : Packing) (e : PlanError) → NotPlannedWithBy q pool.block (texts_of t) e
      → RefusesWritingWith pool t ks (plan_fault e)
  not_planned q e no_memory_beside = as_alone no_memory
  not_planned q e (own_fault found lent h) = own_refused found e h
  not_planned q e (too_far_beside found us offsets offset lent plan are far) =
      too_far no_fault (omega (
        arith,
        far,
        limit_within q pool.block (texts_of t) (texts_of t) found lent,
        own_within q (lacking (texts_of t) found) us offset plan (lacking (texts_of t) found)
            offsets are,
        pool_room q (lacking (texts_of t) found) us offset plan,
        lacking_sum size (texts_of t) found,
        units_room (laying_order t),
        laying_order_long t,
      ))

  pub unplanned : (q : Packing) (S : List (List ℕ)) (f : WritingFault) → S ≡ texts_of t
      → IsUnplanned q pool.block S f → RefusesWritingWith pool t ks f
  unplanned q S f is u =
      subst (RefusesWritingWith pool t ks) (sym u.answered) (not_planned q u.error
      (subst (λ T. NotPlannedWithBy q pool.block T u.error) is u.refused))

-- want of memory is answered, however a file is laid out
pub no_memory_by : (pool : Option Pool) (t : Tree) (ks : List (List ℕ))
    → RefusesBy pool t ks out_of_memory
no_memory_by None t ks = no_memory
no_memory_by (Some pool) t ks = as_alone no_memory

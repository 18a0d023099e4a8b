-- Where the strings of a tree stand, one after another.
--     Pooled q S us os        us is the pool of the strings S in a file that is packed like this,
--                             and os are their offsets in it
use Rattle.std.specs.Prelude.{◌≡◌, ℕ, List, Option, Some, map}
use Rattle.resb_pool.specs.Plan.{IsPlanBy}
use Rattle.resb_pool.specs.declared.packing.Packing.{Packing}

pub record Pooled (q : Packing) (S : List (List ℕ)) (us os : List ℕ) : Type 0 where
  pub offset : List ℕ → Option ℕ
  pub plan : IsPlanBy q S us offset
  pub offsets : map offset S ≡ map Some os

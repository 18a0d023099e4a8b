-- What is left of a quota of bytes, where a reading stands that keeps to it, and where one stops.
use Rattle.std.specs.Prelude.{◌≡◌, ◌⊎◌, ◌+◌, ◌<◌, ℕ, true, false, List}
use Rattle.resb_grammar.specs.declared.limit.Limit.{Limit}
use Rattle.resb_icu_grammar.specs.Limit.{IcuMakes, IcuMakesMore}
use Rattle.resb_icu_grammar.specs.Machine.{Reading}
use Rattle.resb_icu_grammar.specs.Stuck.{Stuck}
use Rattle.resb_icu_text.specs.Refusal.{want_of_memory}
use Rattle.resb_icu_text.specs.declared.error.IcuTextError.{IcuTextError}
use Rattle.resb_icu_text.specs.declared.quota.Quota.{Quota}

-- the limit of a quota of which nothing is taken yet
abbrev pub limit_of : Quota → Limit
limit_of q = record { bytes = q.left; weights = q.weights }

-- so many bytes are taken of a quota, which has as many
pub record TakesBytes (p q : Quota) (bytes : ℕ) : Type 0 where
  pub left : q.left + bytes ≡ p.left
  pub weights : q.weights ≡ p.weights
  pub over : q.is_over ≡ p.is_over

-- so many bytes are more than a quota has
pub record RunsOver (p q : Quota) (bytes : ℕ) : Type 0 where
  pub more : p.left < bytes
  pub over : q.is_over ≡ true

-- a reading stands there, and what it has made is what the quota lacks of this limit
pub record IsAt (text : List ℕ) (limit : Limit) (q : Quota) (r : Reading) : Type 0 where
  pub bytes : ℕ
  pub made : IcuMakes limit.weights text bytes r
  pub sum : bytes + q.left ≡ limit.bytes
  pub weights : q.weights ≡ limit.weights
  pub over : q.is_over ≡ false

-- whatever the limit, a reading comes from the one place with the one quota to the other with the
-- other
abbrev pub GoesOn : List ℕ → Quota → Quota → Reading → Reading → Type 0
GoesOn text p q from to = (limit : Limit) → IsAt text limit p from → IsAt text limit q to

-- a reading gets stuck at the error's place, where its item was expected, and none makes more than
-- the limit
pub record IsStuck (text : List ℕ) (limit : Limit) (e : IcuTextError) : Type 0 where
  pub stuck : Stuck text e.position e.expected
  pub first : IcuMakesMore text limit → ⊥

-- memory was wanted, or a reading gets stuck so; and where more was asked for than the quota had,
-- one makes more than the limit
pub record Stops (text : List ℕ) (limit : Limit) (q : Quota) (e : IcuTextError) : Type 0 where
  pub fails : (e ≡ want_of_memory) ⊎ IsStuck text limit e
  pub over : q.is_over ≡ true → IcuMakesMore text limit

-- whatever the limit, a reading stops so that stands there with the one quota, and leaves the other
abbrev pub StopsAt : List ℕ → Quota → Quota → Reading → IcuTextError → Type 0
StopsAt text p q from e = (limit : Limit) → IsAt text limit p from → Stops text limit q e

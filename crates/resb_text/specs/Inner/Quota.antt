-- What is kept of a quota of bytes, and what is asked of it.
use Rattle.std.specs.Prelude.{◌≡◌, ℕ, ◌+◌, ◌<◌, ◌≤◌, true, false, List}
use Rattle.resb_grammar.specs.Limit.{MakesMore}
use Rattle.resb_grammar.specs.declared.limit.Limit.{Limit}
use Rattle.resb_text.specs.declared.quota.Quota.{Quota}

-- this is the limit, no more than it is made, and where more was asked for, a reading makes more
pub record KeepsQuota (text : List ℕ) (limit : Limit) (q : Quota) : Type 0 where
  pub same : q.limit ≡ limit
  pub within : q.made ≤ limit.bytes
  pub over : q.is_over ≡ true → MakesMore text limit

-- nothing is made yet
pub record IsUnused (q : Quota) : Type 0 where
  pub made : q.made ≡ 0
  pub over : q.is_over ≡ false

-- so many bytes more are made, and no more than the limit is
pub record TakesBytes (p q : Quota) (bytes : ℕ) : Type 0 where
  pub same : q.limit ≡ p.limit
  pub made : q.made ≡ p.made + bytes
  pub within : q.made ≤ p.limit.bytes
  pub over : q.is_over ≡ p.is_over

-- so many bytes more would be more than the limit, and none is made
pub record RunsOver (p q : Quota) (bytes : ℕ) : Type 0 where
  pub same : q.limit ≡ p.limit
  pub made : q.made ≡ p.made
  pub more : p.limit.bytes < p.made + bytes
  pub over : q.is_over ≡ true

-- Strings whose distinct texts are known.
--     ToldApart S T ms order  T are the texts of the strings S, which a pool may hold
--     AreTold D T turns       the same of any strings, without sizes
use Rattle.std.specs.Prelude.{◌≡◌, ℕ, ◌^◌, ◌<◌, List, None, All, Contains, ◌↔◌}
use Rattle.std.specs.Str.{IsUtf8}
use Rattle.resb_pool.specs.Records.{EachOnce}
use Rattle.resb_pool.specs.Plan.{first_too_long, texts_size}
use Rattle.resb_pool.specs.Inner.Placing.{AreTexts, AreTurns}
use Rattle.resb_pool.specs.declared.measure.Measure.{Measure}

-- the texts are those of the strings, with their sizes and turns; the strings are short and few
-- enough for a pool
pub record ToldApart (S T : List (List ℕ)) (ms : List Measure) (order : List ℕ) : Type 0 where
  pub short : first_too_long S ≡ None
  pub small : texts_size S < 2 ^ 28
  pub texts : AreTexts S T ms
  pub turns : AreTurns S T order

-- T are the texts of the strings D, each once, and the turns are their indexes
pub record AreTold (D T : List (List ℕ)) (turns : List ℕ) : Type 0 where
  pub utf8 : All IsUtf8 D
  pub once : EachOnce T
  pub same : (s : List ℕ) → Contains T s ↔ Contains D s
  pub turns_are : AreTurns D T turns

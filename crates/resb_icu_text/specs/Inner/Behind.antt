-- Whether what no text behind a bundle has stands in a text.
use Rattle.std.specs.Prelude.{◌≡◌, ◌<◌, ◌≤◌, ℕ, true, false, List, length}
use Rattle.resb_icu_grammar.specs.Bundle.{is_barred}

-- it stands somewhere from a place on
pub record HasBarred (text : List ℕ) (from : ℕ) : Type 0 where
  pub at : ℕ
  pub order : from ≤ at
  pub fits : at < length text
  pub barred : is_barred text at ≡ true

-- it stands nowhere from a place on
abbrev pub HasNoBarred : List ℕ → ℕ → Type 0
HasNoBarred text from = (k : ℕ) → from ≤ k → k < length text → is_barred text k ≡ false
